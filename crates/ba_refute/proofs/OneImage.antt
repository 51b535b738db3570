-- A branch that isn't absurd has one image at most.
use Rattle.std.proofs.Common.{◌≡◌, ◌∙◌, ℕ, ℤ, pos, zero, suc, ◌+◌, ◌<◌, ◌≤◌, [], ◌∷◌, ◌++◌, List, AllPairs, Contains, Option, Some, None, ap, arith, get_or, inl, inr, length, refl, subst, sym, take, ⊎_elim}
use Rattle.std.proofs.lemmas.Bool.{cases_lt}
use Rattle.std.proofs.lemmas.Cmp.{nat_cmp_total}
use Rattle.std.proofs.lemmas.Int.{by_lt_z, ints}
use Rattle.std.proofs.lemmas.List.{take_all, take_more}
use Rattle.std.proofs.lemmas.List.Elements.{All-contains, Contains-get_or}
use Rattle.std.proofs.lemmas.Map.Views.{All-after_first}
use Rattle.std.proofs.lemmas.Option.{slice_get-get_or}
use Rattle.std.specs.Fmt.{decimal}
use Rattle.std.specs.List.{repeat, zip}
use Rattle.std.specs.List.Sorted.{IsStrictlySortedBy}
use Rattle.std.specs.Ordering.{is_eq, nat_cmp}
use Rattle.std.specs.Prelude.{◌≢◌, slice_index, slice_index_or, ◌≤ℤ◌, ◌<ℤ◌}
use Rattle.std.specs.Cmp.{tied_itself, unsigned_Decides, unsigned_tied}
use Rattle.std.specs.declared.cmp.Ordering.TheVariants.{Less, Equal}
use Rattle.ba_classes.specs.Image.{IsGreatest, IsGreatestUnused, IsLeast, IsLeastUnused, IsValueBetween}
use Rattle.ba_eval.proofs.HeadLemmas.{one_head}
use Rattle.ba_facts.proofs.NameLemmas.{value_cases}
use Rattle.ba_facts.specs.Knowing.{IsLeastOf}
use Rattle.ba_facts.specs.Known.{Known, OneClass}
use Rattle.ba_facts.specs.Shown.{Absurd, literals}
use Rattle.ba_facts.specs.declared.term.Fact.{Fact}
use Rattle.ba_facts.specs.declared.term.Sort.{Sort}
use Rattle.ba_facts.specs.declared.term.Side.{Side}
use Rattle.ba_facts.specs.declared.term.Side.TheVariants.{One, Two}
use Rattle.ba_facts.specs.declared.term.Term.{Term}
use Rattle.ba_facts.specs.declared.term.Term.TheVariants.{Unknown, Val}
use Rattle.ba_model.proofs.ElementLemmas.{Contains-cases, Contains-head, Contains-later, Contains-nil}
use Rattle.ba_model.proofs.UniqueLemmas.{same_sorted, sorted_tail}
use Rattle.ba_model.specs.declared.policy.Context.{Context}
use Rattle.ba_model.specs.declared.schema.Kind.TheVariants.{Int as IntKind, Text as TextKind}
use Rattle.ba_model.specs.declared.value.Value.{Value}
use Rattle.ba_model.specs.declared.value.Value.TheVariants.{Null, Int, Text}
use Rattle.ba_refute.proofs.OrderedLemmas.{same_ordered}
use Rattle.ba_refute.proofs.RowLemmas.{rows_apart}
use Rattle.ba_refute.specs.Images as images
use Rattle.ba_refute.specs.Images.{AreFactRows, AreNodes, AreNumbers, AreSideRows, AreValues, ComesBefore, IsClassValue, IsFactRow, IsFreeUnknown, ImagesAreOne, IsMarks, IsNumberOf, IsRowAt, IsValueOf, literal, null, number, numbers_of, text, with_zero}

-- ---- lists that agree at each place

module _ {X : Type 0} (xs ys : List X) (same_length : length xs ≡ length ys) (d : X) (same : (i : ℕ) → i < length xs → get_or xs i d ≡ get_or ys i d) where
  taken_one : (i : ℕ) → i ≤ length xs → take i xs ≡ take i ys
  taken_one zero within = refl
  taken_one (suc i) within =
      let less : i < length xs = omega (arith, within) in
      let more : i < length ys = omega (arith, less, same_length) in
      let before : take i xs ≡ take i ys = taken_one i (omega (arith, within)) in
      let next : suc i ≡ i + 1 = omega arith in
      subst (λ n. take n xs ≡ take n ys) (sym next)
      (take_more xs i d less ∙ ap (λ zs. zs ++ get_or xs i d ∷ []) before ∙ ap (λ z. take i ys ++ z ∷ []) (same i less) ∙ sym (take_more ys i d more))

  pub lists_one : xs ≡ ys
  lists_one =
      sym (take_all (length xs) xs (omega arith)) ∙ taken_one (length xs) (omega arith) ∙ take_all (length xs) ys (omega (arith, same_length))

-- ---- numbers

not_before : (x y : ℤ) → (x <ℤ y → ⊥) → (y <ℤ x → ⊥) → x ≡ y
not_before x y f g =
    by_lt_z {P = x ≡ y} x y (λ less. absurd (f less)) (λ upto. by_lt_z {P = x ≡ y} y x (λ more. absurd (g more)) (λ back. let e : x ≡ y = omega (arith, ints, upto, back) in e))

upto_both : (x y : ℤ) → x ≤ℤ y → y ≤ℤ x → x ≡ y
upto_both x y h g = not_before x y (λ less. absurd (omega (arith, ints, less, g))) (λ more. absurd (omega (arith, ints, more, h)))

greatest_one : (P : ℤ → Type 0) (m n : Option ℤ) → IsGreatest P m → IsGreatest P n → m ≡ n
greatest_one P None None h g = refl
greatest_one P None (Some n) h g = absurd (h n g.0)
greatest_one P (Some m) None h g = absurd (g m h.0)
greatest_one P (Some m) (Some n) h g = ap Some (upto_both m n (g.1 m h.0) (h.1 n g.0))

least_one : (P : ℤ → Type 0) (m n : Option ℤ) → IsLeast P m → IsLeast P n → m ≡ n
least_one P None None h g = refl
least_one P None (Some n) h g = absurd (h n g.0)
least_one P (Some m) None h g = absurd (g m h.0)
least_one P (Some m) (Some n) h g = ap Some (upto_both m n (h.1 n g.0) (g.1 m h.0))

least_unused_one : (used : List ℤ) (low x y : ℤ) → IsLeastUnused used low x → IsLeastUnused used low y → x ≡ y
least_unused_one used low x y h g = not_before x y (λ less. h.unused (g.passed x h.from less)) (λ more. g.unused (h.passed y g.from more))

greatest_unused_one : (used : List ℤ) (high x y : ℤ) → IsGreatestUnused used high x → IsGreatestUnused used high y → x ≡ y
greatest_unused_one used high x y h g = not_before x y (λ less. g.unused (h.passed y less g.upto)) (λ more. h.unused (g.passed x more h.upto))

between_one : (used : List ℤ) (low high : Option ℤ) (x y : ℤ) → IsValueBetween used low high x → IsValueBetween used low high y → x ≡ y
between_one used None None x y h g = least_unused_one used (pos 0) x y h g
between_one used (Some low) None x y h g = least_unused_one used low x y h g
between_one used None (Some high) x y h g = greatest_unused_one used high x y h g
between_one used (Some low) (Some high) x y (inl h) (inl g) = least_unused_one used low x y h.0 g.0
between_one used (Some low) (Some high) x y (inl h) (inr g) = absurd ((h.0).unused (g.0 x (h.0).from h.1))
between_one used (Some low) (Some high) x y (inr h) (inl g) = absurd ((g.0).unused (h.0 y (g.0).from g.1))
between_one used (Some low) (Some high) x y (inr h) (inr g) = h.1 ∙ sym g.1

number_one : (k : Known) (valued : List (Term × ℤ)) (used : List ℤ) (term : Term) (x y : ℤ) → IsNumberOf k valued used term x → IsNumberOf k valued used term y → x ≡ y
number_one k valued used term x y h g =
    let low : g.low ≡ h.low = greatest_one (images.IsLowerBound k valued term) g.low h.low g.low_is h.low_is in
    let high : g.high ≡ h.high = least_one (images.IsUpperBound k valued term) g.high h.high g.high_is h.high_is in
    between_one used h.low h.high x y h.between
    (subst (λ m. IsValueBetween used h.low m y) high (subst (λ m. IsValueBetween used m g.high y) low g.between))

module _ (k : Known) (used : List ℤ) (nodes : List ℕ) (xs ys : List ℤ) (h : AreNumbers k used nodes xs) (g : AreNumbers k used nodes ys) where
  numbers_taken : (i : ℕ) → i ≤ length nodes → take i xs ≡ take i ys
  numbers_taken zero within = refl
  numbers_taken (suc i) within =
      let less : i < length nodes = omega (arith, within) in
      let before : take i xs ≡ take i ys = numbers_taken i (omega (arith, within)) in
      let next : suc i ≡ i + 1 = omega arith in
      let its = g.each i less in
      let one : slice_index_or xs i (pos 0) ≡ slice_index_or ys i (pos 0) =
      number_one k (with_zero (take i nodes) (take i xs)) (used ++ take i xs) (Unknown (slice_index nodes i)) (slice_index_or xs i (pos 0)) (slice_index_or ys i (pos 0))
      (h.each i less)
      (subst (λ zs. IsNumberOf k (with_zero (take i nodes) zs) (used ++ zs) (Unknown (slice_index nodes i)) (slice_index_or ys i (pos 0))) (sym before) its) in
      subst (λ n. take n xs ≡ take n ys) (sym next)
      (take_more xs i (pos 0) (omega (arith, less, h.len)) ∙ ap (λ zs. zs ++ slice_index_or xs i (pos 0) ∷ []) before ∙
      ap (λ z. take i ys ++ z ∷ []) one ∙ sym (take_more ys i (pos 0) (omega (arith, less, g.len))))

  pub numbers_one : xs ≡ ys
  numbers_one =
      sym (take_all (length nodes) xs (omega (arith, h.len))) ∙ numbers_taken (length nodes) (omega arith) ∙ take_all (length nodes) ys (omega (arith, g.len))

-- ---- nodes

nat_equal : (x y : ℕ) → nat_cmp x y ≡ Equal → x ≡ y
nat_equal x y e = (unsigned_Decides x y).0 (sym (unsigned_tied x y) ∙ ap is_eq e)

nodes_one : (k : Known) (xs ys : List ℕ) → AreNodes k xs → AreNodes k ys → xs ≡ ys
nodes_one k xs ys h g =
    same_sorted nat_cmp_total nat_equal xs ys h.rising g.rising (λ n there. g.complete n (h.sound n there)) (λ n there. h.complete n (g.sound n there))

-- ---- values

least_of_one : (k : Known) (n l m : ℕ) → IsLeastOf k n l → IsLeastOf k n m → l ≡ m
least_of_one k n l m h g =
    ⊎_elim
    (λ (less : l < m). absurd (g.none_less l less h.one_class))
    (λ (past : m ≤ l). ⊎_elim
    (λ (more : m < l). absurd (h.none_less m more g.one_class))
    (λ (upto : l ≤ m). let e : l ≡ m = omega (arith, past, upto) in e)
    (cases_lt m l))
    (cases_lt l m)

marks_one : (all : List Value) (m n : ℕ) → IsMarks all m → IsMarks all n → m ≡ n
marks_one all m n h g =
    let one : m ≤ n = h.least n g.from g.passes in
    let other : n ≤ m = g.least m h.from h.passes in
    omega (arith, one, other)

text_is_whole : (k : Known) (n : ℕ) → IsFreeUnknown k TextKind n → IsFreeUnknown k IntKind n → ⊥
text_is_whole k n h g =
    let a = h.has_kind in
    let b = g.has_kind in
    let same : Some a.sort ≡ Some b.sort = sym a.sort_is ∙ b.sort_is in
    let sorts : a.sort ≡ b.sort = cc in
    let kinds : TextKind ≡ IntKind = sym a.kind_is ∙ ap (λ (s : Sort). s.kind) sorts ∙ b.kind_is in
    cc

-- no number of the first of strictly rising ones comes again
none_again : (n : ℕ) (nodes : List ℕ) (numbers : List ℤ) (z : ℤ) → Contains (zip nodes numbers) (n, z) → Contains nodes n
none_again n [] [] z h = absurd (Contains-nil (n, z) h)
none_again n [] (w ∷ numbers) z h = absurd (Contains-nil (n, z) h)
none_again n (m ∷ nodes) [] z h = absurd (Contains-nil (n, z) h)
none_again n (m ∷ nodes) (w ∷ numbers) z h =
    ⊎_elim
    (λ (e : (m, w) ≡ (n, z)). subst (Contains (m ∷ nodes)) (ap (λ (p : ℕ × ℤ). p.0) e) (Contains-head m nodes))
    (λ (later : Contains (zip nodes numbers) (n, z)). Contains-later m nodes n (none_again n nodes numbers z later))
    (Contains-cases (m, w) (zip nodes numbers) (n, z) h)

first_once : (n : ℕ) (nodes : List ℕ) → IsStrictlySortedBy nat_cmp (n ∷ nodes) → Contains nodes n → ⊥
first_once n nodes rising there =
    let less : nat_cmp n n ≡ Less = All-contains (λ q. nat_cmp n q ≡ Less) nodes n (All-after_first nat_cmp n nodes rising) there in
    let tie : nat_cmp n n ≡ Equal = tied_itself nat_cmp_total n in
    cc

zip_one : (n : ℕ) (nodes : List ℕ) (numbers : List ℤ) (x y : ℤ) → IsStrictlySortedBy nat_cmp nodes → Contains (zip nodes numbers) (n, x) → Contains (zip nodes numbers) (n, y) → x ≡ y
zip_one n [] [] x y rising h g = absurd (Contains-nil (n, x) h)
zip_one n [] (w ∷ numbers) x y rising h g = absurd (Contains-nil (n, x) h)
zip_one n (m ∷ nodes) [] x y rising h g = absurd (Contains-nil (n, x) h)
zip_one n (m ∷ nodes) (w ∷ numbers) x y rising h g =
    ⊎_elim
    (λ (e : (m, w) ≡ (n, x)). ⊎_elim
    (λ (d : (m, w) ≡ (n, y)). sym (ap (λ (p : ℕ × ℤ). p.1) e) ∙ ap (λ (p : ℕ × ℤ). p.1) d)
    (λ (later : Contains (zip nodes numbers) (n, y)).
    absurd (first_once m nodes rising (subst (Contains nodes) (sym (ap (λ (p : ℕ × ℤ). p.0) e)) (none_again n nodes numbers y later))))
    (Contains-cases (m, w) (zip nodes numbers) (n, y) g))
    (λ (later : Contains (zip nodes numbers) (n, x)). ⊎_elim
    (λ (d : (m, w) ≡ (n, y)).
    absurd (first_once m nodes rising (subst (Contains nodes) (sym (ap (λ (p : ℕ × ℤ). p.0) d)) (none_again n nodes numbers x later))))
    (λ (other : Contains (zip nodes numbers) (n, y)). zip_one n nodes numbers x y (sorted_tail nat_cmp m nodes rising) later other)
    (Contains-cases (m, w) (zip nodes numbers) (n, y) g))
    (Contains-cases (m, w) (zip nodes numbers) (n, x) h)

module _ (k : Known) (sound : ¬ (Absurd k)) (all : List Value) (nodes : List ℕ) (numbers : List ℤ) (rising : IsStrictlySortedBy nat_cmp nodes) where
  literal_one : (n : ℕ) (v w : Value) → OneClass k (Unknown n) (Val v) → OneClass k (Unknown n) (Val w) → v ≡ w
  literal_one n v w h g =
      ⊎_elim
      (λ (same : v ≡ w). same)
      (λ (differ : v ≢ w). absurd (sound (literals {a = Unknown n} (record { left = v; right = w; left_in = h; right_in = g; differ = differ }))))
      (value_cases v w)

  class_one : (n : ℕ) (v w : Value) → IsClassValue k all nodes numbers n v → IsClassValue k all nodes numbers n w → v ≡ w
  class_one n v w (literal h) (literal g) = literal_one n v w h g
  class_one n v w (literal h) (null none shown) = absurd (none v h)
  class_one n v w (literal h) (text free marked) = absurd (free.no_literal v h)
  class_one n v w (literal h) (number free has) = absurd (free.no_literal v h)
  class_one n v w (null none shown) (literal g) = absurd (none w g)
  class_one n v w (null none shown) (null other hidden) = refl
  class_one n v w (null none shown) (text free marked) = absurd (shown free.not_null)
  class_one n v w (null none shown) (number free has) = absurd (shown free.not_null)
  class_one n v w (text free marked) (literal g) = absurd (free.no_literal w g)
  class_one n v w (text free marked) (null none shown) = absurd (shown free.not_null)
  class_one n v w (text {marks = l} free marked) (text {marks = m} other others) =
      ap (λ z. Text (repeat z (126 ∷ []) ++ decimal n)) (marks_one all l m marked others)
  class_one n v w (text free marked) (number other has) = absurd (text_is_whole k n free other)
  class_one n v w (number free has) (literal g) = absurd (free.no_literal w g)
  class_one n v w (number free has) (null none shown) = absurd (shown free.not_null)
  class_one n v w (number free has) (text other marked) = absurd (text_is_whole k n other free)
  class_one n v w (number {value = x} free has) (number {value = y} other there) = ap Int (zip_one n nodes numbers x y rising has there)

  value_one : (n : ℕ) (v w : Value) → IsValueOf k all nodes numbers n v → IsValueOf k all nodes numbers n w → v ≡ w
  value_one n v w h g =
      let same : g.least ≡ h.least = least_of_one k n g.least h.least g.is_least h.is_least in
      class_one h.least v w h.value (subst (λ l. IsClassValue k all nodes numbers l w) same g.value)

values_one : (k : Known) → ¬ (Absurd k) → (all xs ys : List Value) → AreValues k all xs → AreValues k all ys → xs ≡ ys
values_one k sound all xs ys h g =
    let nodes_same : g.nodes ≡ h.nodes = nodes_one k g.nodes h.nodes g.nodes_are h.nodes_are in
    let numbered : AreNumbers k (numbers_of all) h.nodes g.numbers = subst (λ ns. AreNumbers k (numbers_of all) ns g.numbers) nodes_same g.numbers_are in
    let numbers_same : g.numbers ≡ h.numbers = numbers_one k (numbers_of all) h.nodes g.numbers h.numbers numbered h.numbers_are in
    lists_one xs ys (h.len ∙ sym g.len) Null
    (λ i less.
    let there : i < length ys = omega (arith, less, h.len, g.len) in
    let its : IsValueOf k all g.nodes g.numbers i (get_or ys i Null) = g.each i (get_or ys i Null) (slice_get-get_or ys i Null there) in
    value_one k sound all h.nodes h.numbers (h.nodes_are).rising i (get_or xs i Null) (get_or ys i Null)
    (h.each i (get_or xs i Null) (slice_get-get_or xs i Null less))
    (subst (λ zs. IsValueOf k all h.nodes zs i (get_or ys i Null)) numbers_same (subst (λ ns. IsValueOf k all ns g.numbers i (get_or ys i Null)) nodes_same its)))

-- ---- databases

module _ (c : Context) (values : List Value) (facts : List Fact) (side : Side) (table : ℕ) where
  -- the one comes before the other, and is a fact's row
  abbrev Precedes : List Value → List Value → Type 0
  Precedes r s = IsFactRow c values facts side table r × ComesBefore c values facts side table r s

  precede : (rows : List (List Value)) → AreFactRows c values facts side table rows → AllPairs Precedes rows
  precede rows h i j d less within = (h.sound (get_or rows i d) (Contains-get_or rows i d (omega (arith, less, within))), h.in_order i j d less within)

  rows_one : (xs ys : List (List Value)) → AreFactRows c values facts side table xs → AreFactRows c values facts side table ys → xs ≡ ys
  rows_one xs ys h g =
      same_ordered Precedes (λ r s first other. rows_apart c values facts side table r s first.0 first.1 other.1) xs ys (precede xs h) (precede ys g)
      (λ r k. g.complete r (h.sound r k)) (λ r k. h.complete r (g.sound r k))

sides_one : (c : Context) (values : List Value) (facts : List Fact) (tables : ℕ) (side : Side) (xs ys : List (List (List Value))) →
    AreSideRows c values facts tables side xs → AreSideRows c values facts tables side ys → xs ≡ ys
sides_one c values facts tables side xs ys h g =
    lists_one xs ys (h.len ∙ sym g.len) []
    (λ i less.
    let there : i < length ys = omega (arith, less, h.len, g.len) in
    rows_one c values facts side i (get_or xs i []) (get_or ys i []) (h.each i (get_or xs i []) (slice_get-get_or xs i [] less)) (g.each i (get_or ys i []) (slice_get-get_or ys i [] there)))

pub images_are_one : ImagesAreOne
images_are_one p c b it other sound h g =
    let values : g.values ≡ h.values = values_one b.known sound (images.literals p b) g.values h.values g.values_are h.values_are in
    let tables = length p.policy.schema.tables in
    let one : it.one.tables ≡ other.one.tables =
    sides_one c h.values b.facts tables One it.one.tables other.one.tables h.one (subst (λ vs. AreSideRows c vs b.facts tables One other.one.tables) values g.one) in
    let two : it.two.tables ≡ other.two.tables =
    sides_one c h.values b.facts tables Two it.two.tables other.two.tables h.two (subst (λ vs. AreSideRows c vs b.facts tables Two other.two.tables) values g.two) in
    let row : it.row ≡ other.row = one_head it.row other.row (sym h.row ∙ subst (λ vs. IsRowAt c vs b.goal other.row) values g.row) in
    λ i. record { one = record { tables = one i }; two = record { tables = two i }; row = row i }
