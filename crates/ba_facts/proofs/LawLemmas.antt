-- What a branch shows is true in each fit, and what it refutes is false there.
use Rattle.std.proofs.Common.{◌≡◌, ◌≢◌, ℤ, pos, ◌+ℤ◌, ◌≤ℤ◌, inl, inr, ◌⊎◌, List, ◌∙◌, refl, sym, ap, subst, arith}
use Rattle.std.proofs.lemmas.Int.{ints}
use Rattle.std.specs.Prelude.{Option, Some}
use Rattle.ba_model.proofs.FitLemmas.{HasKind}
use Rattle.ba_model.specs.Conform.{IsOfKind}
use Rattle.ba_model.specs.Meaning.{Compares}
use Rattle.ba_model.specs.declared.query.Op.{Op}
use Rattle.ba_model.specs.declared.query.Op.TheVariants.{Eq, Ne, Lt, Le, IsNull, NotNull}
use Rattle.ba_model.specs.declared.schema.Kind.{Kind}
use Rattle.ba_model.specs.declared.schema.Schema.{Schema}
use Rattle.ba_model.specs.declared.value.RowSet.{RowSet}
use Rattle.ba_model.specs.declared.value.Value.{Value}
use Rattle.ba_model.specs.declared.value.Value.TheVariants.{Null, Int}
use Rattle.ba_facts.specs.Fits.{FitsAt, Instance, value_of_term}
use Rattle.ba_facts.specs.Known.{IsComparison}
use Rattle.ba_facts.specs.Laws.{AbsurdHasNoFit, NotNullIsTrue, RefutedIsFalse, SameIsTrue, ShownIsTrue, ShownIsTrueOfValues, TermOpFits}
use Rattle.ba_facts.specs.Shown.{Absurd, EitherNull, IsLess, IsUnequal, NeitherNull, RecordedApart, RefutesOf, ShowsOf, TheSame}
use Rattle.ba_facts.specs.declared.branch.Branch.{Branch}
use Rattle.ba_facts.specs.declared.term.Term.{Term}
use Rattle.ba_facts.proofs.ValueLemmas.{chain_rises, at_most_numbers, class_equal, gap_rises, learned_true, left_not_null, less_numbers, literals_differ, number_of_kind, right_not_null, rises_and_back, rises_between, rises_nowhere, rises_strictly, shown_not_null, shown_null, some_is, term_has_value}

less_of : (l r : Value) (x y : ℤ) → l ≡ Int x → r ≡ Int y → (x +ℤ pos 1) ≤ℤ y → Compares Lt l r
less_of l r x y f g above =
    let h : Compares Lt (Int x) (Int y) = omega (arith, ints) in
    subst (λ v. Compares Lt v r) (sym f) (subst (λ w. Compares Lt (Int x) w) (sym g) h)

at_most_of : (l r : Value) (x y : ℤ) → l ≡ Int x → r ≡ Int y → (x +ℤ pos 0) ≤ℤ y → Compares Le l r
at_most_of l r x y f g above =
    let h : Compares Le (Int x) (Int y) = omega (arith, ints) in
    subst (λ v. Compares Le v r) (sym f) (subst (λ w. Compares Le (Int x) w) (sym g) h)

module _ (s : Schema) (b : Branch) (i : Instance) (d e : RowSet) (r values : List Value) (fit : FitsAt s b i d e r values) where
  abbrev value : Term → Option Value
  value = value_of_term i values

  pub same_value : {x y : Term} → TheSame b.known x y → value x ≡ value y
  same_value (inl h) = class_equal s b i d e r values fit h
  same_value (inr h) = rises_and_back (gap_rises s b i d e r values fit h.0) (gap_rises s b i d e r values fit h.1)

  -- the values of two terms
  module _ (x y : Term) (v w : Value) (left_is : value x ≡ Some v) (right_is : value y ≡ Some w) where
    equal_values : TheSame b.known x y → v ≡ w
    equal_values h = some_is (sym left_is ∙ (same_value h ∙ right_is))

    none_null : NeitherNull b.known x y → (v ≢ Null) × (w ≢ Null)
    none_null h = (shown_not_null s b i d e r values fit v h.left left_is, shown_not_null s b i d e r values fit w h.right right_is)

    not_either_null : EitherNull b.known x y → v ≢ Null → w ≢ Null → ⊥
    not_either_null (inl h) f g = f (shown_null s b i d e r values fit v h left_is)
    not_either_null (inr h) f g = g (shown_null s b i d e r values fit w h right_is)

    less_values : IsLess b.known x y → Compares Lt v w
    less_values h =
        let n = rises_strictly v w (gap_rises s b i d e r values fit h.gap) left_is right_is in
        less_of v w n.low n.high n.low_is n.high_is n.above

  -- `=` is false of the two
  module _ (x y : Term) (v w : Value) (left_is : value x ≡ Some v) (right_is : value y ≡ Some w) (left : v ≢ Null) (right : w ≢ Null) where
    apart_differ : RecordedApart b.known x y → v ≢ w
    apart_differ h same =
        let t = learned_true s b i d e r values fit h.learned in
        elim h.sides [
          | inl as_is ↦
              t.compared.2
              (sym (equal_values x h.x v t.left left_is t.left_is as_is.0) ∙ (same ∙ equal_values y h.y w t.right right_is t.right_is as_is.1))
          | inr turned ↦
              t.compared.2
              (sym (equal_values y h.x w t.left right_is t.left_is turned.1) ∙ (sym same ∙ equal_values x h.y v t.right left_is t.right_is turned.0))
        ]

    unequal_differ : IsUnequal b.known x y → v ≢ w
    unequal_differ (IsUnequal.literals h) same = literals_differ s b i d e r values fit v w h left_is right_is same
    unequal_differ (IsUnequal.less h) same =
        let n = rises_strictly v w (gap_rises s b i d e r values fit h.gap) left_is right_is in
        let met : n.low ≡ n.high = cc (n.low_is, n.high_is) in
        omega (arith, ints, n.above)
    unequal_differ (IsUnequal.greater h) same =
        let n = rises_strictly w v (gap_rises s b i d e r values fit h.gap) right_is left_is in
        let met : n.low ≡ n.high = cc (n.low_is, n.high_is) in
        omega (arith, ints, n.above)
    unequal_differ (IsUnequal.apart h) same = apart_differ h same
    unequal_differ (IsUnequal.null h) same = not_either_null x y v w left_is right_is h left right

  module _ (x y : Term) (v w : Value) (left_is : value x ≡ Some v) (right_is : value y ≡ Some w) where
    -- what is shown
    pub shown_compares : (op : Op) (k : Kind) → TermOpFits op k → HasKind k v → HasKind k w → ShowsOf b.known op x y → Compares op v w
    shown_compares Eq k fits f g h = ((none_null x y v w left_is right_is h.not_null).0, equal_values x y v w left_is right_is h.same)
    shown_compares Ne k fits f g h =
        let n = none_null x y v w left_is right_is h.0 in (n.0, n.1, unequal_differ x y v w left_is right_is n.0 n.1 h.1)
    shown_compares Lt k fits f g h = less_values x y v w left_is right_is h
    shown_compares Le k fits f g h =
        let n = none_null x y v w left_is right_is h.not_null in
        let low = number_of_kind v n.0 (subst (λ q. HasKind q v) fits f) in
        let high = number_of_kind w n.1 (subst (λ q. HasKind q w) fits g) in
        at_most_of v w low.0 high.0 low.1 high.1
        (rises_between low.0 high.0 (gap_rises s b i d e r values fit h.gap) (left_is ∙ ap Some low.1) (right_is ∙ ap Some high.1))
    shown_compares IsNull k fits f g h = shown_null s b i d e r values fit v h left_is
    shown_compares NotNull k fits f g h = shown_not_null s b i d e r values fit v h left_is

    -- a true comparison has no NULL
    refuted_by_null : (op : Op) → IsComparison op → Compares op v w → EitherNull b.known x y → ⊥
    refuted_by_null op is h null = not_either_null x y v w left_is right_is null (left_not_null op v w is h) (right_not_null op v w is h)

    -- what is refuted
    pub refuted_fails : (op : Op) → RefutesOf b.known op x y → Compares op v w → ⊥
    refuted_fails Eq h is = unequal_differ x y v w left_is right_is (left_not_null Eq v w tt is) (right_not_null Eq v w tt is) h is.1
    refuted_fails Ne (inl h) is = is.2 (equal_values x y v w left_is right_is h.same)
    refuted_fails Ne (inr h) is = refuted_by_null Ne tt is h
    refuted_fails Lt (inl h) is =
        let n = less_numbers v w is in
        let back = rises_between n.high n.low (gap_rises s b i d e r values fit h.gap) (right_is ∙ ap Some n.high_is) (left_is ∙ ap Some n.low_is) in
        omega (arith, ints, n.above, back)
    refuted_fails Lt (inr h) is = refuted_by_null Lt tt is h
    refuted_fails Le (inl h) is =
        let n = at_most_numbers v w is in
        let back = rises_between n.high n.low (gap_rises s b i d e r values fit h.gap) (right_is ∙ ap Some n.high_is) (left_is ∙ ap Some n.low_is) in
        omega (arith, ints, n.above, back)
    refuted_fails Le (inr h) is = refuted_by_null Le tt is h
    refuted_fails IsNull h is = shown_not_null s b i d e r values fit v h left_is is
    refuted_fails NotNull h is = is (shown_null s b i d e r values fit v h left_is)

  pub absurd_fails : Absurd b.known → ⊥
  absurd_fails (Absurd.literals h) =
      let is = class_equal s b i d e r values fit h.left_in in literals_differ s b i d e r values fit h.left h.left h is is refl
  absurd_fails (Absurd.null h g) = shown_not_null s b i d e r values fit Null g (class_equal s b i d e r values fit h) refl
  absurd_fails (Absurd.apart h g) =
      let t = learned_true s b i d e r values fit h in t.compared.2 (some_is (sym t.left_is ∙ (same_value g.same ∙ t.right_is)))
  absurd_fails (Absurd.rising above h) = rises_nowhere above (chain_rises s b i d e r values fit h)

has_kind : (k : Kind) (v : Value) → IsOfKind k v ⊎ (v ≡ Null) → HasKind k v
has_kind k v (inl h) = inr h
has_kind k v (inr h) = inl h

pub shown_is_true_of_values : ShownIsTrueOfValues
shown_is_true_of_values s b i d e r values atom fit fits shown =
    record {
      left = fits.left;
      right = fits.right;
      left_is = fits.left_is;
      right_is = fits.right_is;
      compared =
          shown_compares s b i d e r values fit atom.left atom.right fits.left fits.right fits.left_is fits.right_is atom.op fits.kind fits.op
          (has_kind fits.kind fits.left fits.left_fits) (has_kind fits.kind fits.right fits.right_fits) shown;
    }

pub not_null_is_true : NotNullIsTrue
not_null_is_true s b i d e r values x fit h is = shown_not_null s b i d e r values fit Null h is refl

pub shown_is_true : ShownIsTrue
shown_is_true s b i d e r values atom fit fits shown =
    let left = term_has_value s b i d e r values fit atom.left fits.kind fits.left_is in
    let right = term_has_value s b i d e r values fit atom.right fits.kind fits.right_is in
    record {
      left = left.0;
      right = right.0;
      left_is = left.1;
      right_is = right.1;
      compared = shown_compares s b i d e r values fit atom.left atom.right left.0 right.0 left.1 right.1 atom.op fits.kind fits.op left.2 right.2 shown;
    }

pub refuted_is_false : RefutedIsFalse
refuted_is_false s b i d e r values atom fit refuted h =
    refuted_fails s b i d e r values fit atom.left atom.right h.left h.right h.left_is h.right_is atom.op refuted h.compared

pub same_is_true : SameIsTrue
same_is_true s b i d e r values x y fit h = same_value s b i d e r values fit h

pub absurd_has_no_fit : AbsurdHasNoFit
absurd_has_no_fit s b i d e r h fit = absurd_fails s b i d e r fit.0 fit.1 h
