-- Values of classes without a literal: they differ from each literal, and among each other.
use Rattle.std.proofs.Common.{◌≡◌, ◌∙◌, ℕ, zero, suc, ◌<◌, ◌≤◌, ◌^◌, ◌⊎◌, inl, inr, ℤ, pos, List, [], ◌∷◌, ◌++◌, Contains, Option, Some, None, get_or, length, map, take, refl, sym, ap, subst, ⊎_elim, arith}
use Rattle.std.proofs.lemmas.Bool.{cases_lt}
use Rattle.std.proofs.lemmas.Cmp.{nat_cmp_total}
use Rattle.std.proofs.lemmas.Fmt.{decimal_is_IsNumeral_wide}
use Rattle.std.proofs.lemmas.List.{append_cancel_left, length-take-le, get_or-take}
use Rattle.std.proofs.lemmas.List.Elements.{All-contains, Contains-append_left, Contains-append_right, Contains-get_or}
use Rattle.std.proofs.lemmas.Map.Views.{All-after_first}
use Rattle.std.specs.Cmp.{tied_itself}
use Rattle.std.specs.Fmt.{decimal}
use Rattle.std.specs.List.{repeat, zip}
use Rattle.std.specs.List.Sorted.{IsStrictlySortedBy}
use Rattle.std.specs.Ordering.{nat_cmp}
use Rattle.std.specs.Str.Parse.{digits_value}
use Rattle.std.specs.declared.cmp.Ordering.TheVariants.{Less, Equal}
use Rattle.ba_classes.specs.Image.{IsGreatest, IsLeast, IsLeastUnused, IsValueBetween}
use Rattle.ba_facts.specs.Known.{Known, NotNullTerm, OneClass, ShownNotNull, itself, turned}
use Rattle.ba_facts.specs.declared.term.Term.{Term}
use Rattle.ba_facts.specs.declared.term.Sort.{Sort}
use Rattle.ba_facts.specs.declared.term.Term.TheVariants.{Unknown, Val}
use Rattle.ba_model.proofs.ElementLemmas.{Contains-cases, Contains-head, Contains-into_flat_map, Contains-nil}
use Rattle.ba_model.proofs.UniqueLemmas.{sorted_tail}
use Rattle.ba_model.specs.declared.schema.Kind.TheVariants.{Int as IntKind, Text as TextKind}
use Rattle.ba_model.specs.declared.value.Value.{Value}
use Rattle.ba_model.specs.declared.value.Value.TheVariants.{Null, Int, Text}
use Rattle.ba_refute.specs.Images.{AreNodes, AreNumbers, HasNoLiteral, IsClassValue, IsFreeUnknown, IsLowerBound, IsMarks, IsNode, IsUpperBound, literal, null, number, number_of_value, numbers_of, signs, text, with_zero}
use Rattle.ba_refute.proofs.ClassLemmas.{gap_from, gap_to}
use Rattle.ba_refute.specs.TermValues.{KnowsEquationsAlone}

-- ---- texts that begin with signs

pub signs_of : (marks : ℕ) (rest : List ℕ) → marks ≤ signs (Text (repeat marks (126 ∷ []) ++ rest))
signs_of zero rest = omega arith
signs_of (suc marks) rest = let more = signs_of marks rest in omega (arith, more)

pub marks_one : (all : List Value) (m n : ℕ) → IsMarks all m → IsMarks all n → m ≡ n
marks_one all m n h g =
    let one : m ≤ n = h.least n g.from g.passes in
    let other : n ≤ m = g.least m h.from h.passes in
    omega (arith, one, other)

decimal_one : (n m : ℕ) → n < 10 ^ 64 → m < 10 ^ 64 → decimal n ≡ decimal m → n ≡ m
decimal_one n m small low e = sym ((decimal_is_IsNumeral_wide n small).1) ∙ ap (digits_value 10) e ∙ (decimal_is_IsNumeral_wide m low).1

text_bytes : (s t : List ℕ) → Text s ≡ Text t → s ≡ t
text_bytes s t e = cc

texts_one : (all : List Value) (m n l k : ℕ) → IsMarks all m → IsMarks all n → l < 10 ^ 64 → k < 10 ^ 64 →
    Text (repeat m (126 ∷ []) ++ decimal l) ≡ Text (repeat n (126 ∷ []) ++ decimal k) → l ≡ k
texts_one all m n l k h g small low e =
    let same : m ≡ n = marks_one all m n h g in
    let bytes : repeat m (126 ∷ []) ++ decimal l ≡ repeat n (126 ∷ []) ++ decimal k = text_bytes _ _ e in
    let front : repeat m (126 ∷ []) ++ decimal l ≡ repeat m (126 ∷ []) ++ decimal k =
    subst (λ z. repeat m (126 ∷ []) ++ decimal l ≡ repeat z (126 ∷ []) ++ decimal k) (sym same) bytes in
    decimal_one l k small low (append_cancel_left (repeat m (126 ∷ [])) (decimal l) (decimal k) front)

-- ---- strictly rising numbers

pub rising_at : (nodes : List ℕ) → IsStrictlySortedBy nat_cmp nodes → (i j : ℕ) → i < j → j < length nodes → nat_cmp (get_or nodes i 0) (get_or nodes j 0) ≡ Less
rising_at [] rising i j less below = absurd (omega (arith, below))
rising_at (n ∷ nodes) rising zero zero less below = absurd (omega (arith, less))
rising_at (n ∷ nodes) rising zero (suc j) less below = All-after_first nat_cmp n nodes rising j 0 (omega (arith, below))
rising_at (n ∷ nodes) rising (suc i) zero less below = absurd (omega (arith, less))
rising_at (n ∷ nodes) rising (suc i) (suc j) less below = rising_at nodes (sorted_tail nat_cmp n nodes rising) i j (omega (arith, less)) (omega (arith, below))

node_apart : (nodes : List ℕ) → IsStrictlySortedBy nat_cmp nodes → (i j : ℕ) → i < j → j < length nodes → get_or nodes i 0 ≡ get_or nodes j 0 → ⊥
node_apart nodes rising i j less below e =
    let low : nat_cmp (get_or nodes i 0) (get_or nodes j 0) ≡ Less = rising_at nodes rising i j less below in
    let tie : nat_cmp (get_or nodes i 0) (get_or nodes j 0) ≡ Equal = subst (λ n. nat_cmp (get_or nodes i 0) n ≡ Equal) e (tied_itself nat_cmp_total (get_or nodes i 0)) in
    cc

-- a pair of two lists stands at one place in both
pub record IsPairAt (nodes : List ℕ) (numbers : List ℤ) (n : ℕ) (z : ℤ) : Type 0 where
  pub place : ℕ
  pub below : place < length nodes
  pub node_is : get_or nodes place 0 ≡ n
  pub number_is : get_or numbers place (pos 0) ≡ z

pub pair_at : (nodes : List ℕ) (numbers : List ℤ) (n : ℕ) (z : ℤ) → Contains (zip nodes numbers) (n, z) → IsPairAt nodes numbers n z
pair_at [] numbers n z h = absurd (Contains-nil (n, z) h)
pair_at (m ∷ nodes) [] n z h = absurd (Contains-nil (n, z) h)
pair_at (m ∷ nodes) (w ∷ numbers) n z h =
    ⊎_elim
    (λ (e : (m, w) ≡ (n, z)). let it : IsPairAt (m ∷ nodes) (w ∷ numbers) n z = record { place = 0; below = omega arith; node_is = ap (λ (p : ℕ × ℤ). p.0) e; number_is = ap (λ (p : ℕ × ℤ). p.1) e } in it)
    (λ (later : Contains (zip nodes numbers) (n, z)).
    let at = pair_at nodes numbers n z later in
    let it : IsPairAt (m ∷ nodes) (w ∷ numbers) n z = record { place = suc at.place; below = omega (arith, at.below); node_is = at.node_is; number_is = at.number_is } in it)
    (Contains-cases (m, w) (zip nodes numbers) (n, z) h)

-- ---- numbers of nodes

module _ (k : Known) (are : KnowsEquationsAlone k) (used : List ℤ) (nodes : List ℕ) (numbers : List ℤ) (nodes_are : AreNodes k nodes) (numbers_are : AreNumbers k used nodes numbers) where
  node_free : (i : ℕ) → i < length nodes → IsNode k (get_or nodes i 0)
  node_free i below = nodes_are.sound (get_or nodes i 0) (Contains-get_or nodes i 0 below)

  -- what is valued before a node
  zero_or_node : (i : ℕ) → i ≤ length nodes → (t : Term) (z : ℤ) → Contains (with_zero (take i nodes) (take i numbers)) (t, z) →
      (t ≡ Val (Int (pos 0))) ⊎ ((j : ℕ) × (j < i) × (t ≡ Unknown (get_or nodes j 0)))
  zero_or_node i upto t z h =
      ⊎_elim
      (λ (e : (Val (Int (pos 0)), pos 0) ≡ (t, z)). inl (sym (ap (λ (p : Term × ℤ). p.0) e)))
      (λ (later : Contains (zip (map Unknown (take i nodes)) (take i numbers)) (t, z)).
      let at = node_at (take i nodes) (take i numbers) t z later in
      let long : length (take i nodes) ≡ i = length-take-le i nodes upto in
      let less : at.0 < i = omega (arith, at.1, long) in
      inr (at.0, less, at.2 ∙ ap Unknown (get_or-take i nodes at.0 0 less)))
      (Contains-cases (Val (Int (pos 0)), pos 0) (zip (map Unknown (take i nodes)) (take i numbers)) (t, z) h)
    where
      node_at : (xs : List ℕ) (vs : List ℤ) (t : Term) (z : ℤ) → Contains (zip (map Unknown xs) vs) (t, z) → (j : ℕ) × (j < length xs) × (t ≡ Unknown (get_or xs j 0))
      node_at [] vs t z h = absurd (Contains-nil (t, z) h)
      node_at (x ∷ xs) [] t z h = absurd (Contains-nil (t, z) h)
      node_at (x ∷ xs) (v ∷ vs) t z h =
          elim (Contains-cases (Unknown x, v) (zip (map Unknown xs) vs) (t, z) h) as (λ _. (j : ℕ) × (j < suc (length xs)) × (t ≡ Unknown (get_or (x ∷ xs) j 0))) [
            | inl e ↦ (0, omega arith, sym (ap (λ (p : Term × ℤ). p.0) e))
            | inr later ↦ let r = node_at xs vs t z later in (suc r.0, omega (arith, r.1), r.2)
          ]

  -- no node before is of the node's class, and 0 isn't
  none_before : (i : ℕ) → i < length nodes → (t : Term) (z : ℤ) → Contains (with_zero (take i nodes) (take i numbers)) (t, z) → OneClass k t (Unknown (get_or nodes i 0)) → ⊥
  none_before i below t z h class =
      ⊎_elim
      (λ (e : t ≡ Val (Int (pos 0))). (node_free i below).free.no_literal (Int (pos 0)) (turned (subst (λ x. OneClass k x (Unknown (get_or nodes i 0))) e class)))
      (λ (it : (j : ℕ) × (j < i) × (t ≡ Unknown (get_or nodes j 0))).
      let earlier : it.0 < length nodes = omega (arith, it.1, below) in
      let here : OneClass k (Unknown (get_or nodes it.0 0)) (Unknown (get_or nodes i 0)) = subst (λ x. OneClass k x (Unknown (get_or nodes i 0))) it.2 class in
      least_apart (get_or nodes it.0 0) (get_or nodes i 0) (node_free it.0 earlier) (node_free i below) here (node_apart nodes nodes_are.rising it.0 i it.1 below))
      (zero_or_node i (omega (arith, below)) t z h)
    where
      least_apart : (n m : ℕ) → IsNode k n → IsNode k m → OneClass k (Unknown n) (Unknown m) → (n ≡ m → ⊥) → ⊥
      least_apart n m h g class apart =
          ⊎_elim
          (λ (less : n < m). g.least.least n less (turned class))
          (λ (upto : m ≤ n). ⊎_elim
          (λ (more : m < n). h.least.least m more class)
          (λ (back : n ≤ m). let e : n ≡ m = omega (arith, upto, back) in apart e)
          (cases_lt m n))
          (cases_lt n m)

  none_low : (i : ℕ) → i < length nodes → (o : Option ℤ) → IsGreatest (IsLowerBound k (with_zero (take i nodes) (take i numbers)) (Unknown (get_or nodes i 0))) o → o ≡ None
  none_low i below None is = refl
  none_low i below (Some m) is =
      absurd (none_before i below (is.0).other (is.0).value (is.0).has_value (gap_to k are (is.0).other (Unknown (get_or nodes i 0)) (is.0).gap (node_free i below).free.no_literal (is.0).shown))

  none_high : (i : ℕ) → i < length nodes → (o : Option ℤ) → IsLeast (IsUpperBound k (with_zero (take i nodes) (take i numbers)) (Unknown (get_or nodes i 0))) o → o ≡ None
  none_high i below None is = refl
  none_high i below (Some m) is =
      absurd (none_before i below (is.0).other (is.0).value (is.0).has_value (turned (gap_from k are (Unknown (get_or nodes i 0)) (is.0).other (is.0).gap (node_free i below).free.no_literal (is.0).shown)))

  -- a node has the least number from 0 on that isn't used
  pub least_unused : (i : ℕ) → i < length nodes → IsLeastUnused (used ++ take i numbers) (pos 0) (get_or numbers i (pos 0))
  least_unused i below =
      let it = numbers_are.each i below in
      let low = none_low i below it.low it.low_is in
      let high = none_high i below it.high it.high_is in
      subst (λ o. IsValueBetween (used ++ take i numbers) None o (get_or numbers i (pos 0))) high
      (subst (λ o. IsValueBetween (used ++ take i numbers) o it.high (get_or numbers i (pos 0))) low it.between)

  pub number_unused : (n : ℕ) (z : ℤ) → Contains (zip nodes numbers) (n, z) → Contains used z → ⊥
  number_unused n z h there =
      let at = pair_at nodes numbers n z h in
      (least_unused at.place at.below).unused (subst (Contains (used ++ take at.place numbers)) (sym at.number_is) (Contains-append_left used (take at.place numbers) z there))

  number_earlier : (i j : ℕ) → i < j → j < length nodes → get_or numbers i (pos 0) ≡ get_or numbers j (pos 0) → ⊥
  number_earlier i j less below e =
      let upto : j ≤ length numbers = omega (arith, below, numbers_are.len) in
      let long : length (take j numbers) ≡ j = length-take-le j numbers upto in
      let there : Contains (take j numbers) (get_or (take j numbers) i (pos 0)) = Contains-get_or (take j numbers) i (pos 0) (omega (arith, long, less)) in
      (least_unused j below).unused
      (Contains-append_right used (take j numbers) (get_or numbers j (pos 0)) (subst (Contains (take j numbers)) (get_or-take j numbers i (pos 0) less ∙ e) there))

  -- a number is that of one node alone
  pub numbers_apart : (n m : ℕ) (y z : ℤ) → Contains (zip nodes numbers) (n, y) → Contains (zip nodes numbers) (m, z) → y ≡ z → n ≡ m
  numbers_apart n m y z h g e =
      let at = pair_at nodes numbers n y h in
      let it = pair_at nodes numbers m z g in
      let values : get_or numbers at.place (pos 0) ≡ get_or numbers it.place (pos 0) = at.number_is ∙ e ∙ sym it.number_is in
      ⊎_elim
      (λ (less : at.place < it.place). absurd (number_earlier at.place it.place less it.below values))
      (λ (upto : it.place ≤ at.place). ⊎_elim
      (λ (more : it.place < at.place). absurd (number_earlier it.place at.place more at.below (sym values)))
      (λ (back : at.place ≤ it.place).
      let same : at.place ≡ it.place = omega (arith, upto, back) in
      sym at.node_is ∙ ap (λ i. get_or nodes i 0) same ∙ it.node_is)
      (cases_lt it.place at.place))
      (cases_lt at.place it.place)

  -- and a node has one number
  pub number_one : (n : ℕ) (y z : ℤ) → Contains (zip nodes numbers) (n, y) → Contains (zip nodes numbers) (n, z) → y ≡ z
  number_one n y z h g =
      let at = pair_at nodes numbers n y h in
      let it = pair_at nodes numbers n z g in
      let same : get_or nodes at.place 0 ≡ get_or nodes it.place 0 = at.node_is ∙ sym it.node_is in
      ⊎_elim
      (λ (less : at.place < it.place). absurd (node_apart nodes nodes_are.rising at.place it.place less it.below same))
      (λ (upto : it.place ≤ at.place). ⊎_elim
      (λ (more : it.place < at.place). absurd (node_apart nodes nodes_are.rising it.place at.place more at.below (sym same)))
      (λ (back : at.place ≤ it.place).
      let place : at.place ≡ it.place = omega (arith, upto, back) in
      sym at.number_is ∙ ap (λ i. get_or numbers i (pos 0)) place ∙ it.number_is)
      (cases_lt it.place at.place))
      (cases_lt at.place it.place)

-- ---- values of classes

kinds_apart : (k : Known) (n : ℕ) → IsFreeUnknown k TextKind n → IsFreeUnknown k IntKind n → ⊥
kinds_apart k n h g =
    let a = h.has_kind in
    let b = g.has_kind in
    let same : Some a.sort ≡ Some b.sort = sym a.sort_is ∙ b.sort_is in
    let sorts : a.sort ≡ b.sort = cc in
    let kinds : TextKind ≡ IntKind = sym a.kind_is ∙ ap (λ (s : Sort). s.kind) sorts ∙ b.kind_is in
    cc

pub int_in : (all : List Value) (z : ℤ) → Contains all (Int z) → Contains (numbers_of all) z
int_in all z h = Contains-into_flat_map number_of_value all (Int z) z h (Contains-head z [])

int_of : (y z : ℤ) → Int y ≡ Int z → y ≡ z
int_of y z e = cc

module _ (k : Known) (are : KnowsEquationsAlone k) (all : List Value) (nodes : List ℕ) (numbers : List ℤ) (nodes_are : AreNodes k nodes) (numbers_are : AreNumbers k (numbers_of all) nodes numbers) where
  abbrev pub IsFreeValue : ℕ → Value → Type 0
  IsFreeValue n v = HasNoLiteral k n × NotNullTerm k (Unknown n) × IsClassValue k all nodes numbers n v

  shown_there : (n : ℕ) → NotNullTerm k (Unknown n) → ShownNotNull k (Unknown n)
  shown_there n h = record { other = Unknown n; class = itself; not_null = h }

  -- it is no literal
  not_literal : (n : ℕ) (v : Value) → IsClassValue k all nodes numbers n v → HasNoLiteral k n → NotNullTerm k (Unknown n) → Contains all v → ⊥
  not_literal n v (literal h) none full there = none v h
  not_literal n v (null without hidden) none full there = hidden (shown_there n full)
  not_literal n v (text {marks = marks} free marked) none full there =
      let less : signs v < marks = All-contains (λ w. signs w < marks) all v marked.passes there in
      let upto : marks ≤ signs v = signs_of marks (decimal n) in
      omega (arith, less, upto)
  not_literal n v (number {value = z} free has) none full there = number_unused k are (numbers_of all) nodes numbers nodes_are numbers_are n z has (int_in all z there)

  pub free_is_no_literal : (n : ℕ) (v : Value) → IsFreeValue n v → Contains all v → ⊥
  free_is_no_literal n v h there = not_literal n v h.2 h.0 h.1 there

  -- it is that of one class alone
  values_apart : (n m : ℕ) (v w : Value) → n < 10 ^ 64 → m < 10 ^ 64 → HasNoLiteral k n → HasNoLiteral k m → NotNullTerm k (Unknown n) → NotNullTerm k (Unknown m) →
      IsClassValue k all nodes numbers n v → IsClassValue k all nodes numbers m w → v ≡ w → n ≡ m
  values_apart n m v w small low none without full filled (literal h) g e = absurd (none v h)
  values_apart n m v w small low none without full filled (null a hidden) g e = absurd (hidden (shown_there n full))
  values_apart n m v w small low none without full filled (text free marked) (literal g) e = absurd (without w g)
  values_apart n m v w small low none without full filled (text free marked) (null a hidden) e = absurd (hidden (shown_there m filled))
  values_apart n m v w small low none without full filled (text {marks = a} free marked) (text {marks = b} other others) e = texts_one all a b n m marked others small low e
  values_apart n m v w small low none without full filled (text free marked) (number other has) e = absurd cc
  values_apart n m v w small low none without full filled (number free has) (literal g) e = absurd (without w g)
  values_apart n m v w small low none without full filled (number free has) (null a hidden) e = absurd (hidden (shown_there m filled))
  values_apart n m v w small low none without full filled (number free has) (text other marked) e = absurd cc
  values_apart n m v w small low none without full filled (number {value = y} free has) (number {value = z} other there) e =
      numbers_apart k are (numbers_of all) nodes numbers nodes_are numbers_are n m y z has there (int_of y z e)

  pub free_values_apart : (n m : ℕ) (v w : Value) → n < 10 ^ 64 → m < 10 ^ 64 → IsFreeValue n v → IsFreeValue m w → v ≡ w → n ≡ m
  free_values_apart n m v w small low h g e = values_apart n m v w small low h.0 g.0 h.1 g.1 h.2 g.2 e

  -- and a class has one
  values_one : (n : ℕ) (v w : Value) → HasNoLiteral k n → NotNullTerm k (Unknown n) → IsClassValue k all nodes numbers n v → IsClassValue k all nodes numbers n w → v ≡ w
  values_one n v w none full (literal h) g = absurd (none v h)
  values_one n v w none full (null a hidden) g = absurd (hidden (shown_there n full))
  values_one n v w none full (text free marked) (literal g) = absurd (none w g)
  values_one n v w none full (text free marked) (null a hidden) = absurd (hidden (shown_there n full))
  values_one n v w none full (text {marks = a} free marked) (text {marks = b} other others) =
      ap (λ z. Text (repeat z (126 ∷ []) ++ decimal n)) (marks_one all a b marked others)
  values_one n v w none full (text free marked) (number other has) = absurd (kinds_apart k n free other)
  values_one n v w none full (number free has) (literal g) = absurd (none w g)
  values_one n v w none full (number free has) (null a hidden) = absurd (hidden (shown_there n full))
  values_one n v w none full (number free has) (text other marked) = absurd (kinds_apart k n other free)
  values_one n v w none full (number {value = y} free has) (number {value = z} other there) = ap Int (number_one k are (numbers_of all) nodes numbers nodes_are numbers_are n y z has there)

  pub free_value_one : (n : ℕ) (v w : Value) → IsFreeValue n v → IsFreeValue n w → v ≡ w
  free_value_one n v w h g = values_one n v w h.0 h.1 h.2 g.2

  -- it isn't NULL
  value_not_null : (n : ℕ) (v : Value) → HasNoLiteral k n → NotNullTerm k (Unknown n) → IsClassValue k all nodes numbers n v → v ≡ Null → ⊥
  value_not_null n v none full (literal h) e = none v h
  value_not_null n v none full (null a hidden) e = hidden (shown_there n full)
  value_not_null n v none full (text free marked) e = cc
  value_not_null n v none full (number free has) e = cc

  pub free_is_not_null : (n : ℕ) (v : Value) → IsFreeValue n v → v ≡ Null → ⊥
  free_is_not_null n v h e = value_not_null n v h.0 h.1 h.2 e
