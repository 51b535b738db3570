-- Of two values of one kind an atom is true, or its negation is.
use Rattle.std.proofs.Common.{◌≡◌, ◌⊎◌, inl, inr, ℤ, List, [], ◌∷◌, refl, ap, sym, ◌∙◌, subst}
use Rattle.std.proofs.Math.Logic.{⊎_swap}
use Rattle.std.proofs.lemmas.Bool.{cases_Bool}
use Rattle.std.proofs.lemmas.Int.{by_lt_z}
use Rattle.std.specs.List.{Contains}
use Rattle.std.specs.Ordering.{eq_by_cmp}
use Rattle.std.specs.Prelude.{Some, slice_get, ◌≢◌, ◌<ℤ◌, ◌≤ℤ◌}
use Rattle.ba_model.specs.Conform.{IsOfKind}
use Rattle.ba_model.specs.Fit.{kind_of_value}
use Rattle.ba_model.specs.Meaning.{Compares}
use Rattle.ba_model.specs.Order.{value_cmp}
use Rattle.ba_model.specs.OrderLaws.{value_decides}
use Rattle.ba_model.specs.declared.query.Op.{Op}
use Rattle.ba_model.specs.declared.query.Op.TheVariants.{Eq, Ne, Lt, Le, IsNull, NotNull}
use Rattle.ba_model.specs.declared.schema.Kind.{Kind}
use Rattle.ba_model.specs.declared.schema.Kind.TheVariants.{Int as IntKind, Text as TextKind}
use Rattle.ba_model.specs.declared.schema.Schema.{Schema}
use Rattle.ba_model.specs.declared.value.RowSet.{RowSet}
use Rattle.ba_model.specs.declared.value.Value.{Value}
use Rattle.ba_model.specs.declared.value.Value.TheVariants.{Null, Int, Text}
use Rattle.ba_model.proofs.FitLemmas.{AllZip-at, HasKind}
use Rattle.ba_facts.specs.Fits.{Fits, FitsAt, Instance, IsOfSort, TermAtomHolds, value_of_term}
use Rattle.ba_facts.specs.Known.{ShownNotNull}
use Rattle.ba_facts.specs.Laws.{NotNullIsTrue, TermOpFits, kind_of_term}
use Rattle.ba_facts.specs.declared.branch.Branch.{Branch}
use Rattle.ba_facts.specs.declared.term.Lesson.TheVariants.{Holds}
use Rattle.ba_facts.specs.declared.term.Sort.{Sort}
use Rattle.ba_facts.specs.declared.term.Term.{Term}
use Rattle.ba_facts.specs.declared.term.Term.TheVariants.{Unknown, Val, Param, Var}
use Rattle.ba_facts.specs.declared.term.TermAtom.{TermAtom}
use Rattle.ba_kernel.specs.Effects.{negation, negation_of, with_lessons}
use Rattle.ba_kernel.specs.Steps.{MayBeSplit, SplitLeads}
use Rattle.ba_kernel.proofs.StepFits.{Contains-at, lesson_keeps_fit, map_is}

-- ---- values

value_of_kind : (v : Value) (k : Kind) → kind_of_value v ≡ Some k → IsOfKind k v
value_of_kind Null k e = cc
value_of_kind (Int n) k e = let h : IntKind ≡ k = cc in subst (λ q. IsOfKind q (Int n)) h tt
value_of_kind (Text t) k e = let h : TextKind ≡ k = cc in subst (λ q. IsOfKind q (Text t)) h tt

sort_value : (sort : Sort) (v : Value) → IsOfSort sort v → HasKind sort.kind v
sort_value sort Null h = inl refl
sort_value sort (Int n) h = inr h
sort_value sort (Text t) h = inr h

same_or_not : (v w : Value) → (v ≡ w) ⊎ (v ≢ w)
same_or_not v w =
    elim (cases_Bool (eq_by_cmp value_cmp v w)) [
      | inl equal ↦ inl ((value_decides v w).0 equal)
      | inr differ ↦ inr (λ e. let equal = (value_decides v w).1 e in cc)
    ]

whole_number : (v : Value) (k : Kind) → HasKind k v → k ≡ IntKind → v ≢ Null → (n : ℤ) × (v ≡ Int n)
whole_number Null k h is full = absurd (full refl)
whole_number (Int n) k h is full = (n, refl)
whole_number (Text t) k (inl e) is full = cc
whole_number (Text t) k (inr of) is full = elim (subst (λ q. IsOfKind q (Text t)) is of) [ ]

numbers : (v w : Value) (n m : ℤ) → v ≡ Int n → w ≡ Int m → (Compares Lt v w ⊎ Compares Le w v)
numbers v w n m p q =
    subst (λ x. Compares Lt x w ⊎ Compares Le w x) (sym p)
    (subst (λ y. Compares Lt (Int n) y ⊎ Compares Le y (Int n)) (sym q)
    (by_lt_z {P = (n <ℤ m) ⊎ (m ≤ℤ n)} n m (λ less. inl less) (λ more. inr more)))

-- ---- terms

module _ (s : Schema) (b : Branch) (i : Instance) (d e : RowSet) (r values : List Value) (fit : FitsAt s b i d e r values) where
  -- a term that has a kind has a value, which is NULL or of the kind
  pub term_value : (t : Term) (k : Kind) → kind_of_term b t ≡ Some k → (v : Value) × (value_of_term i values t ≡ Some v) × HasKind k v
  term_value (Unknown n) k is =
      let sort = map_is (λ sort. sort.kind) (slice_get b.known.unknowns n) k is in
      let v = AllZip-at IsOfSort b.known.unknowns values n sort.0 fit.sorts sort.1 in
      (v.0, v.1, subst (λ q. HasKind q v.0) sort.2 (sort_value sort.0 v.0 v.2))
  term_value (Val v) k is = (v, refl, inr (value_of_kind v k is))
  term_value (Param n) k is = let v = AllZip-at IsOfKind b.params i.context.values n k fit.params is in (v.0, v.1, inr v.2)
  term_value (Var n) k is = let v = AllZip-at IsOfKind b.vars i.vars n k fit.vars is in (v.0, v.1, inr v.2)

  not_null_value : NotNullIsTrue → (t : Term) (v : Value) → value_of_term i values t ≡ Some v → ShownNotNull b.known t → v ≢ Null
  not_null_value not_null t v at shown is = not_null s b i d e r values t fit shown (at ∙ ap Some is)

  module _ (x y : Term) (v w : Value) (left : value_of_term i values x ≡ Some v) (right : value_of_term i values y ≡ Some w) where
    holds : (op : Op) → Compares op v w → TermAtomHolds i values (record { op = op; left = x; right = y })
    holds op h = record { left = v; right = w; left_is = left; right_is = right; compared = h }

    turned : (op : Op) → Compares op w v → TermAtomHolds i values (record { op = op; left = y; right = x })
    turned op h = record { left = w; right = v; left_is = right; right_is = left; compared = h }

    equal_or : v ≢ Null → w ≢ Null →
        TermAtomHolds i values (record { op = Eq; left = x; right = y }) ⊎ TermAtomHolds i values (record { op = Ne; left = x; right = y })
    equal_or full_left full_right =
        elim (same_or_not v w) [ inl same ↦ inl (holds Eq (full_left, same)) | inr differ ↦ inr (holds Ne (full_left, full_right, differ)) ]

    less_or : (k : Kind) → HasKind k v → HasKind k w → k ≡ IntKind → v ≢ Null → w ≢ Null →
        TermAtomHolds i values (record { op = Lt; left = x; right = y }) ⊎ TermAtomHolds i values (record { op = Le; left = y; right = x })
    less_or k kv kw is full_left full_right =
        let n = whole_number v k kv is full_left in
        let m = whole_number w k kw is full_right in
        elim (numbers v w n.0 m.0 n.1 m.1) [ inl less ↦ inl (holds Lt less) | inr more ↦ inr (turned Le more) ]

    null_or : TermAtomHolds i values (record { op = IsNull; left = x; right = y }) ⊎ TermAtomHolds i values (record { op = NotNull; left = x; right = y })
    null_or = elim (same_or_not v Null) [ inl null ↦ inl (holds IsNull null) | inr full ↦ inr (holds NotNull full) ]

  split_by : NotNullIsTrue → (op : Op) (x y : Term) (k : Kind) (v w : Value) → value_of_term i values x ≡ Some v → value_of_term i values y ≡ Some w →
      HasKind k v → HasKind k w → TermOpFits op k → MayBeSplit b op x y →
      TermAtomHolds i values (record { op = op; left = x; right = y }) ⊎ TermAtomHolds i values (negation_of op x y)
  split_by nn Eq x y k v w p q kv kw fits may = equal_or x y v w p q (not_null_value nn x v p may.left) (not_null_value nn y w q may.right)
  split_by nn Ne x y k v w p q kv kw fits may = ⊎_swap (equal_or x y v w p q (not_null_value nn x v p may.left) (not_null_value nn y w q may.right))
  split_by nn Lt x y k v w p q kv kw fits may = less_or x y v w p q k kv kw fits (not_null_value nn x v p may.left) (not_null_value nn y w q may.right)
  split_by nn Le x y k v w p q kv kw fits may = ⊎_swap (less_or y x w v q p k kw kv fits (not_null_value nn y w q may.right) (not_null_value nn x v p may.left))
  split_by nn IsNull x y k v w p q kv kw fits may = null_or x y v w p q
  split_by nn NotNull x y k v w p q kv kw fits may = ⊎_swap (null_or x y v w p q)

-- what fits a branch fits a case of a split
pub split_keeps_fit : NotNullIsTrue → (s : Schema) (b : Branch) (i : Instance) (d e : RowSet) (r : List Value) (atom : TermAtom) (cases : List Branch) →
    Fits s b i d e r → SplitLeads b atom cases → (new : Branch) × Contains cases new × Fits s new i d e r
split_keeps_fit not_null s b i d e r atom cases (values, fit) leads =
    let v = term_value s b i d e r values fit atom.left leads.passes.kind leads.passes.sides.left in
    let w = term_value s b i d e r values fit atom.right leads.passes.kind leads.passes.sides.right in
    let first = with_lessons b (Holds atom ∷ []) in
    let last = with_lessons b (Holds (negation atom) ∷ []) in
    elim (split_by s b i d e r values fit not_null atom.op atom.left atom.right leads.passes.kind v.0 w.0 v.1 w.1 v.2 w.2 leads.passes.op leads.passes.may) [
      | inl holds ↦ (
        first,
        subst (λ bs. Contains bs first) (sym leads.cases_are) (Contains-at (first ∷ last ∷ []) 0 first refl),
        (values, lesson_keeps_fit s b i d e r values fit (Holds atom) holds),
      )
      | inr fails ↦ (
        last,
        subst (λ bs. Contains bs last) (sym leads.cases_are) (Contains-at (first ∷ last ∷ []) 1 last refl),
        (values, lesson_keeps_fit s b i d e r values fit (Holds (negation atom)) fails),
      )
    ]
