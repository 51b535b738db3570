-- The values of terms in a fit.
use Rattle.std.proofs.Common.{◌≡◌, ◌≢◌, ℕ, zero, suc, ℤ, pos, ◌+ℤ◌, ◌≤ℤ◌, ◌<ℤ◌, inl, inr, false, List, [], ◌∷◌, ◌∙◌, refl, sym, ap, subst, arith}
use Rattle.std.proofs.lemmas.Int.{ints}
use Rattle.std.proofs.lemmas.List.Elements.{All-contains}
use Rattle.std.specs.List.{AllZip, Contains}
use Rattle.std.specs.Option.{option_map}
use Rattle.std.specs.Prelude.{Option, Some, None, slice_get}
use Rattle.ba_model.proofs.FitLemmas.{AllZip-at, HasKind}
use Rattle.ba_model.specs.Conform.{IsOfKind}
use Rattle.ba_model.specs.Fit.{kind_of_value}
use Rattle.ba_model.specs.Meaning.{Compares}
use Rattle.ba_model.specs.declared.query.Op.{Op}
use Rattle.ba_model.specs.declared.query.Op.TheVariants.{Eq, Ne, Lt, Le, IsNull, NotNull}
use Rattle.ba_model.specs.declared.schema.Kind.{Kind}
use Rattle.ba_model.specs.declared.schema.Kind.TheVariants.{Int as IntKind, Text as TextKind}
use Rattle.ba_model.specs.declared.schema.Schema.{Schema}
use Rattle.ba_model.specs.declared.value.RowSet.{RowSet}
use Rattle.ba_model.specs.declared.value.Value.{Value}
use Rattle.ba_model.specs.declared.value.Value.TheVariants.{Null, Int, Text}
use Rattle.ba_facts.specs.Fits.{FitsAt, Instance, IsOfSort, LessonHolds, TermAtomHolds, value_of_term}
use Rattle.ba_facts.specs.Known.{Chain, DifferentLiterals, Equated, IsComparison, Learned, NotNullTerm, OneClass, Rise, ShownGap, ShownNotNull, ShownNull}
use Rattle.ba_facts.specs.Laws.{kind_of_term}
use Rattle.ba_facts.specs.declared.branch.Branch.{Branch}
use Rattle.ba_facts.specs.declared.term.Lesson.{Lesson}
use Rattle.ba_facts.specs.declared.term.Lesson.TheVariants.{Same, Holds}
use Rattle.ba_facts.specs.declared.term.Sort.{Sort}
use Rattle.ba_facts.specs.declared.term.Term.{Term}
use Rattle.ba_facts.specs.declared.term.Term.TheVariants.{Unknown, Val, Param, Var}

-- ---- values

pub some_is : {X : Type 0} {x y : X} → Some x ≡ Some y → x ≡ y
some_is e = cc

-- the two sides of a true order are whole numbers
pub record Numbers (l r : Value) (n : ℤ) : Type 0 where
  pub low : ℤ
  pub high : ℤ
  pub low_is : l ≡ Int low
  pub high_is : r ≡ Int high
  pub above : (low +ℤ n) ≤ℤ high

pub at_most_numbers : (l r : Value) → Compares Le l r → Numbers l r (pos 0)
at_most_numbers Null r h = absurd h
at_most_numbers (Text t) r h = absurd h
at_most_numbers (Int x) Null h = absurd h
at_most_numbers (Int x) (Text t) h = absurd h
at_most_numbers (Int x) (Int y) h = record { low = x; high = y; low_is = refl; high_is = refl; above = omega (arith, ints) }

pub less_numbers : (l r : Value) → Compares Lt l r → Numbers l r (pos 1)
less_numbers Null r h = absurd h
less_numbers (Text t) r h = absurd h
less_numbers (Int x) Null h = absurd h
less_numbers (Int x) (Text t) h = absurd h
less_numbers (Int x) (Int y) h = record { low = x; high = y; low_is = refl; high_is = refl; above = omega (arith, ints) }

-- no side of a true comparison is NULL
number_not_null : (v : Value) (n : ℤ) → v ≡ Int n → v ≢ Null
number_not_null v n e h = cc

pub left_not_null : (op : Op) (l r : Value) → IsComparison op → Compares op l r → l ≢ Null
left_not_null Eq l r is h = h.0
left_not_null Ne l r is h = h.0
left_not_null Lt l r is h = let n = less_numbers l r h in number_not_null l n.low n.low_is
left_not_null Le l r is h = let n = at_most_numbers l r h in number_not_null l n.low n.low_is
left_not_null IsNull l r is h = absurd is
left_not_null NotNull l r is h = absurd is

pub right_not_null : (op : Op) (l r : Value) → IsComparison op → Compares op l r → r ≢ Null
right_not_null Eq l r is h = subst (λ v. v ≢ Null) h.1 h.0
right_not_null Ne l r is h = h.1
right_not_null Lt l r is h = let n = less_numbers l r h in number_not_null r n.high n.high_is
right_not_null Le l r is h = let n = at_most_numbers l r h in number_not_null r n.high n.high_is
right_not_null IsNull l r is h = absurd is
right_not_null NotNull l r is h = absurd is

not_null_of_kind : (k : Kind) (v : Value) → IsOfKind k v → v ≢ Null
not_null_of_kind k v is e = let h : IsOfKind k Null = subst (IsOfKind k) e is in h

null_of_sort : (sort : Sort) (v : Value) → sort.nullable ≡ false → IsOfSort sort v → v ≢ Null
null_of_sort sort v never is e = let h : IsOfSort sort Null = subst (IsOfSort sort) e is in cc

-- ---- steps up

-- two values, of which the second is at least n greater: they are whole numbers, or one value and n isn't above 0
pub data Rises (v w : Option Value) (n : ℤ) : Type 0 where
  level : v ≡ w → n ≤ℤ pos 0 → Rises v w n
  numbers : {l r : Value} → v ≡ Some l → w ≡ Some r → Numbers l r n → Rises v w n

numbers_join : {l m o r : Value} (j k : ℤ) → Numbers l m j → m ≡ o → Numbers o r k → Numbers l r (j +ℤ k)
numbers_join j k a e b =
    let same : a.high ≡ b.low = cc (a.high_is, b.low_is) in
    record { low = a.low; high = b.high; low_is = a.low_is; high_is = b.high_is; above = omega (arith, ints, a.above, b.above) }

numbers_lower : {l r : Value} {k : ℤ} (j : ℤ) → j ≤ℤ k → Numbers l r k → Numbers l r j
numbers_lower j e a = record { low = a.low; high = a.high; low_is = a.low_is; high_is = a.high_is; above = omega (arith, ints, a.above) }

rises_join : {u v w : Option Value} {j k : ℤ} → Rises u v j → Rises v w k → Rises u w (j +ℤ k)
rises_join {j} {k} (Rises.level e h) (Rises.level f g) = Rises.level (e ∙ f) (omega (arith, ints))
rises_join {j} {k} (Rises.level e h) (Rises.numbers f g n) = Rises.numbers (e ∙ f) g (numbers_lower (j +ℤ k) (omega (arith, ints)) n)
rises_join {j} {k} (Rises.numbers e h n) (Rises.level f g) = Rises.numbers e (sym f ∙ h) (numbers_lower (j +ℤ k) (omega (arith, ints)) n)
rises_join {j} {k} (Rises.numbers e h n) (Rises.numbers f g m) = Rises.numbers e g (numbers_join j k n (some_is (sym h ∙ f)) m)

rises_lower : {v w : Option Value} {k : ℤ} (j : ℤ) → j ≤ℤ k → Rises v w k → Rises v w j
rises_lower j e (Rises.level f g) = Rises.level f (omega (arith, ints))
rises_lower j e (Rises.numbers f g n) = Rises.numbers f g (numbers_lower j e n)

-- between whole numbers
pub rises_between : {v w : Option Value} {n : ℤ} (x y : ℤ) → Rises v w n → v ≡ Some (Int x) → w ≡ Some (Int y) → (x +ℤ n) ≤ℤ y
rises_between x y (Rises.level e h) f g = let same : x ≡ y = cc in omega (arith, ints)
rises_between x y (Rises.numbers e h n) f g =
    let low : n.low ≡ x = cc (n.low_is) in
    let high : n.high ≡ y = cc (n.high_is) in
    omega (arith, ints, n.above)

-- strictly up, both are whole numbers
pub rises_strictly : {v w : Option Value} (l r : Value) → Rises v w (pos 1) → v ≡ Some l → w ≡ Some r → Numbers l r (pos 1)
rises_strictly l r (Rises.level e h) f g = absurd (omega (arith, ints))
rises_strictly l r (Rises.numbers e h n) f g =
    record { low = n.low; high = n.high; low_is = some_is (sym f ∙ e) ∙ n.low_is; high_is = some_is (sym g ∙ h) ∙ n.high_is; above = n.above }

-- up and back, it is one value
pub rises_and_back : {v w : Option Value} → Rises v w (pos 0) → Rises w v (pos 0) → v ≡ w
rises_and_back (Rises.level e h) back = e
rises_and_back (Rises.numbers e h n) back =
    let up : (n.high +ℤ pos 0) ≤ℤ n.low = rises_between n.high n.low back (h ∙ ap Some n.high_is) (e ∙ ap Some n.low_is) in
    let same : n.low ≡ n.high = omega (arith, ints, n.above) in
    e ∙ (ap Some (n.low_is ∙ (ap Int same ∙ sym n.high_is)) ∙ sym h)

-- no value is above itself
pub rises_nowhere : {v : Option Value} {n : ℤ} → pos 0 <ℤ n → Rises v v n → ⊥
rises_nowhere above (Rises.level e h) = omega (arith, ints)
rises_nowhere above (Rises.numbers e h n) =
    let same : n.low ≡ n.high = cc (n.low_is, n.high_is) in omega (arith, ints, n.above)

-- ---- what stands in lists side by side

-- what stands in the first list at a place of the second
AllZip-at_right : {A B : Type 0} (R : A → B → Type 0) (xs : List A) (ys : List B) (i : ℕ) (y : B) → AllZip R xs ys → slice_get ys i ≡ Some y → (x : A) × R x y
AllZip-at_right R [] [] i y h e = cc
AllZip-at_right R [] (b ∷ ys) i y h e = absurd h
AllZip-at_right R (a ∷ xs) [] i y h e = absurd h
AllZip-at_right R (a ∷ xs) (b ∷ ys) zero y h e = (a, subst (R a) (some_is e) h.0)
AllZip-at_right R (a ∷ xs) (b ∷ ys) (suc i) y h e = AllZip-at_right R xs ys i y h.1 e

map_is : {A B : Type 0} (f : A → B) (o : Option A) (b : B) → option_map f o ≡ Some b → (a : A) × (o ≡ Some a) × (f a ≡ b)
map_is f None b e = cc
map_is f (Some a) b e = (a, refl, some_is e)

value_has_kind : (v : Value) (k : Kind) → kind_of_value v ≡ Some k → HasKind k v
value_has_kind Null k e = inl refl
value_has_kind (Int n) k e = let h : IntKind ≡ k = cc in inr (subst (λ q. IsOfKind q (Int n)) h tt)
value_has_kind (Text t) k e = let h : TextKind ≡ k = cc in inr (subst (λ q. IsOfKind q (Text t)) h tt)

sort_has_kind : (sort : Sort) (v : Value) → IsOfSort sort v → HasKind sort.kind v
sort_has_kind sort Null h = inl refl
sort_has_kind sort (Int n) h = inr h
sort_has_kind sort (Text t) h = inr h

-- a value that isn't NULL of the kind of whole numbers is one
pub number_of_kind : (v : Value) → v ≢ Null → HasKind IntKind v → (n : ℤ) × (v ≡ Int n)
number_of_kind Null h k = absurd (h refl)
number_of_kind (Int n) h k = (n, refl)
number_of_kind (Text t) h (inl e) = cc
number_of_kind (Text t) h (inr k) = absurd k

-- ---- a fit

module _ (s : Schema) (b : Branch) (i : Instance) (d e : RowSet) (r values : List Value) (fit : FitsAt s b i d e r values) where
  -- a term of a kind has a value
  pub term_has_value : (x : Term) (k : Kind) → kind_of_term b x ≡ Some k → (v : Value) × (value_of_term i values x ≡ Some v) × HasKind k v
  term_has_value (Unknown n) k is =
      let sort = map_is (λ it. it.kind) (slice_get b.known.unknowns n) k is in
      let v = AllZip-at IsOfSort b.known.unknowns values n sort.0 fit.sorts sort.1 in
      (v.0, v.1, subst (λ q. HasKind q v.0) sort.2 (sort_has_kind sort.0 v.0 v.2))
  term_has_value (Val v) k is = (v, refl, value_has_kind v k is)
  term_has_value (Param n) k is = let v = AllZip-at IsOfKind b.params i.context.values n k fit.params is in (v.0, v.1, inr v.2)
  term_has_value (Var n) k is = let v = AllZip-at IsOfKind b.vars i.vars n k fit.vars is in (v.0, v.1, inr v.2)

  lesson_true : (lesson : Lesson) → Contains b.known.learned lesson → LessonHolds i values lesson
  lesson_true lesson there = All-contains (LessonHolds i values) b.known.learned lesson fit.learned there

  pub learned_true : {op : Op} {x y : Term} → Learned b.known op x y → TermAtomHolds i values (record { op = op; left = x; right = y })
  learned_true {op} {x} {y} there = lesson_true (Holds (record { op = op; left = x; right = y })) there

  equated_equal : {x y : Term} → Equated b.known x y → value_of_term i values x ≡ value_of_term i values y
  equated_equal {x} {y} (Equated.same there) = let h = lesson_true (Same x y) there in h.left_is ∙ sym h.right_is
  equated_equal (Equated.equal there) = let h = learned_true there in h.left_is ∙ (ap Some (h.compared.1) ∙ sym h.right_is)
  equated_equal (Equated.null there) = let h = learned_true there in h.left_is ∙ ap Some h.compared

  -- terms of one class have one value, if any
  pub class_equal : {x y : Term} → OneClass b.known x y → value_of_term i values x ≡ value_of_term i values y
  class_equal (OneClass.equated h) = equated_equal h
  class_equal OneClass.itself = refl
  class_equal (OneClass.turned h) = sym (class_equal h)
  class_equal (OneClass.joined h g) = class_equal h ∙ class_equal g

  not_null_term : {x : Term} (v : Value) → NotNullTerm b.known x → value_of_term i values x ≡ Some v → v ≢ Null
  not_null_term v (NotNullTerm.column {n} {sort} there never) is =
      let w = AllZip-at IsOfSort b.known.unknowns values n sort fit.sorts there in
      null_of_sort sort v never (subst (IsOfSort sort) (some_is (sym w.1 ∙ is)) w.2)
  not_null_term v (NotNullTerm.literal h) is = subst (λ w. w ≢ Null) (some_is is) h
  not_null_term v (NotNullTerm.param {n}) is = let k = AllZip-at_right IsOfKind b.params i.context.values n v fit.params is in not_null_of_kind k.0 v k.1
  not_null_term v (NotNullTerm.var {n}) is = let k = AllZip-at_right IsOfKind b.vars i.vars n v fit.vars is in not_null_of_kind k.0 v k.1
  not_null_term v (NotNullTerm.left {op} there compares) is =
      let h = learned_true there in subst (λ w. w ≢ Null) (some_is (sym h.left_is ∙ is)) (left_not_null op h.left h.right compares h.compared)
  not_null_term v (NotNullTerm.right {op} there compares) is =
      let h = learned_true there in subst (λ w. w ≢ Null) (some_is (sym h.right_is ∙ is)) (right_not_null op h.left h.right compares h.compared)
  not_null_term v (NotNullTerm.recorded there) is = let h = learned_true there in subst (λ w. w ≢ Null) (some_is (sym h.left_is ∙ is)) h.compared

  -- the value of a term that is shown not null isn't NULL
  pub shown_not_null : {x : Term} (v : Value) → ShownNotNull b.known x → value_of_term i values x ≡ Some v → v ≢ Null
  shown_not_null v h is = not_null_term v h.not_null (sym (class_equal h.class) ∙ is)

  pub shown_null : {x : Term} (v : Value) → ShownNull b.known x → value_of_term i values x ≡ Some v → v ≡ Null
  shown_null v h is = some_is (sym is ∙ class_equal h)

  pub literals_differ :
      {x y : Term} (v w : Value) → DifferentLiterals b.known x y → value_of_term i values x ≡ Some v → value_of_term i values y ≡ Some w → v ≢ w
  literals_differ v w h f g same = h.differ (some_is (sym (class_equal h.left_in) ∙ (f ∙ (ap Some same ∙ (sym g ∙ class_equal h.right_in)))))

  step_rises : {x y : Term} {n : ℤ} → Rise b.known x n y → Rises (value_of_term i values x) (value_of_term i values y) n
  step_rises (Rise.within h) = Rises.level (class_equal h) (omega (arith, ints))
  step_rises (Rise.at_most there) = let h = learned_true there in Rises.numbers h.left_is h.right_is (at_most_numbers h.left h.right h.compared)
  step_rises (Rise.less there) = let h = learned_true there in Rises.numbers h.left_is h.right_is (less_numbers h.left h.right h.compared)
  step_rises (Rise.number {n} {m}) = Rises.numbers refl refl (record { low = n; high = m; low_is = refl; high_is = refl; above = omega (arith, ints) })

  -- a chain rises by its sum
  pub chain_rises : {x y : Term} {n : ℤ} → Chain b.known x n y → Rises (value_of_term i values x) (value_of_term i values y) n
  chain_rises Chain.none = Rises.level refl (omega (arith, ints))
  chain_rises (Chain.first h rest) = rises_join (step_rises h) (chain_rises rest)

  pub gap_rises : {x y : Term} {n : ℤ} → ShownGap b.known x n y → Rises (value_of_term i values x) (value_of_term i values y) n
  gap_rises {x} {y} {n} h = rises_lower n h.enough (chain_rises h.chain)
