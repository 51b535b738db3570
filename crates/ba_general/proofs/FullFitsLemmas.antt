-- The atoms of the full condition fit a pattern that fits.
use Rattle.std.proofs.Common.{◌≡◌, ◌≢◌, Bool, true, false, List, [], ◌∷◌, ◌++◌, map, refl, sym, ap, ◌∙◌, subst, suc, arith}
use Rattle.std.specs.Prelude.{All, Option, Some, None}
use Rattle.std.specs.List.{AllZip, flat_map}
use Rattle.std.proofs.lemmas.List.Elements.{All-append, All-cons, All-nil, All-weaker}
use Rattle.ba_kernel.specs.Courses.{EntryFits, ProblemFits}
use Rattle.ba_kernel.specs.declared.problem.Problem.{Problem}
use Rattle.ba_model.specs.Fit.{AtomFits, kind_of, kind_of_value, kinds_of}
use Rattle.ba_model.specs.declared.query.Atom.{Atom}
use Rattle.ba_model.specs.declared.schema.Kind.{Kind}
use Rattle.ba_model.specs.declared.schema.Kind.TheVariants as kinds
use Rattle.ba_model.specs.declared.value.Value.{Value}
use Rattle.ba_model.specs.declared.value.Value.TheVariants.{Null, Int, Text}
use Rattle.ba_general.specs.Conditions.{AddsOnes, AtomsFit, IsApartOf, IsEqualOf, IsFull, IsLessOf, IsOne, PatternFits, fixed_of, pairs, those}
use Rattle.ba_general.specs.declared.condition.Group.{Group}
use Rattle.ba_general.specs.declared.condition.Group.TheVariants.{Fixed, Less, Apart, Equal}
use Rattle.ba_general.specs.declared.pattern.Pattern.{Pattern}
use Rattle.ba_general.specs.declared.pattern.Valued.{Valued}
use Rattle.ba_general.specs.Dropping.{kept_atoms}
use Rattle.ba_general.specs.Patterns.{assuming}

pub kept_fit : (P : Atom → Type 0) (atoms : List Atom) (kept : List Bool) → All P atoms → All P (kept_atoms atoms kept)
kept_fit P [] kept h = All-nil P
kept_fit P (atom ∷ atoms) [] h = All-nil P
kept_fit P (atom ∷ atoms) (true ∷ kept) h =
    All-cons P atom (kept_atoms atoms kept) (h 0 atom (omega arith)) (kept_fit P atoms kept (λ i d below. h (suc i) d (omega arith)))
kept_fit P (atom ∷ atoms) (false ∷ kept) h = kept_fit P atoms kept (λ i d below. h (suc i) d (omega arith))

pub assuming_fits : (g : Problem) (atoms : List Atom) → ProblemFits g → AtomsFit g atoms → ProblemFits (assuming g atoms)
assuming_fits g atoms h fit =
    record {
      links = h.links;
      rules = h.rules;
      policy = h.policy;
      goal = h.goal;
      entries = All-weaker (EntryFits g) (EntryFits (assuming g atoms)) (λ entry e. record { query = e.query; row = e.row }) g.entries h.entries;
      assumed = fit;
    }

-- ---- the full condition

-- an operand of the kind of its value, which isn't NULL
pub record OperandFits (g : Problem) (x : Valued) : Type 0 where
  pub kind : kind_of g.policy.schema (kinds_of g.policy.params) g.vars [] x.operand ≡ kind_of_value x.value
  pub not_null : x.value ≢ Null

some_kind : (v : Value) → v ≢ Null → (kind : Kind) × (kind_of_value v ≡ Some kind)
some_kind Null h = absurd (h refl)
some_kind (Int n) h = (kinds.Int, refl)
some_kind (Text t) h = (kinds.Text, refl)

module _ (g : Problem) where
  abbrev Fit : Atom → Type 0
  Fit atom = AtomFits g.policy.schema (kinds_of g.policy.params) g.vars [] atom

  fixed_fits : (operands : List Valued) → All (OperandFits g) operands → All Fit (map fixed_of operands)
  fixed_fits [] h = All-nil Fit
  fixed_fits (x ∷ operands) h =
      let here : OperandFits g x = h 0 x (omega arith) in
      let w = some_kind x.value here.not_null in
      All-cons Fit (fixed_of x) (map fixed_of operands) (record { kind = w.0; left_is = here.kind ∙ w.1; right_is = w.1; op = tt })
      (fixed_fits operands (λ i d below. h (suc i) d (omega arith)))

  less_fits : (x y : Valued) (atom : Atom) → OperandFits g x → OperandFits g y → IsLessOf x y atom → Fit atom
  less_fits x y atom h k (IsLessOf.first p q below) =
      record { kind = kinds.Int; left_is = h.kind ∙ ap kind_of_value p; right_is = k.kind ∙ ap kind_of_value q; op = refl }
  less_fits x y atom h k (IsLessOf.second p q below) =
      record { kind = kinds.Int; left_is = k.kind ∙ ap kind_of_value q; right_is = h.kind ∙ ap kind_of_value p; op = refl }

  apart_fits : (x y : Valued) (atom : Atom) → OperandFits g x → OperandFits g y → IsApartOf x y atom → Fit atom
  apart_fits x y atom h k a =
      subst Fit (sym a.is) (record { kind = a.kind.kind; left_is = h.kind ∙ a.kind.left; right_is = k.kind ∙ a.kind.right; op = tt })

  equal_fits : (x y : Valued) (atom : Atom) → OperandFits g x → OperandFits g y → IsEqualOf x y atom → Fit atom
  equal_fits x y atom h k a =
      let w = some_kind x.value h.not_null in
      subst Fit (sym a.is) (record { kind = w.0; left_is = h.kind ∙ w.1; right_is = k.kind ∙ (ap kind_of_value (sym a.values) ∙ w.1); op = tt })

  one_fits : (group : Group) (x y : Valued) (one : Option Atom) → OperandFits g x → OperandFits g y → IsOne group (x, y) one → All Fit (those one)
  one_fits group x y None h k is = All-nil Fit
  one_fits Fixed x y (Some atom) h k is = absurd is
  one_fits Less x y (Some atom) h k is = All-cons Fit atom [] (less_fits x y atom h k is) (All-nil Fit)
  one_fits Apart x y (Some atom) h k is = All-cons Fit atom [] (apart_fits x y atom h k is) (All-nil Fit)
  one_fits Equal x y (Some atom) h k is = All-cons Fit atom [] (equal_fits x y atom h k is) (All-nil Fit)

  abbrev BothFit : Valued × Valued → Type 0
  BothFit two = OperandFits g two.0 × OperandFits g two.1

  with_each : (x : Valued) (ys : List Valued) → OperandFits g x → All (OperandFits g) ys → All BothFit (map (λ y. (x, y)) ys)
  with_each x [] h k = All-nil BothFit
  with_each x (y ∷ ys) h k =
      All-cons BothFit (x, y) (map (λ z. (x, z)) ys) (h, k 0 y (omega arith)) (with_each x ys h (λ i d below. k (suc i) d (omega arith)))

  pairs_fit : (operands : List Valued) → All (OperandFits g) operands → All BothFit (pairs operands)
  pairs_fit [] h = All-nil BothFit
  pairs_fit (x ∷ xs) h =
      let later : All (OperandFits g) xs = λ i d below. h (suc i) d (omega arith) in
      All-append BothFit (map (λ y. (x, y)) xs) (pairs xs) (with_each x xs (h 0 x (omega arith)) later) (pairs_fit xs later)

  ones_fit : (group : Group) (twos : List (Valued × Valued)) (ones : List (Option Atom)) → All BothFit twos → AllZip (IsOne group) twos ones → All Fit (flat_map those ones)
  ones_fit group [] [] h k = All-nil Fit
  ones_fit group [] (one ∷ ones) h k = absurd k
  ones_fit group ((x, y) ∷ twos) [] h k = absurd k
  ones_fit group ((x, y) ∷ twos) (one ∷ ones) h k =
      let here : BothFit (x, y) = h 0 (x, y) (omega arith) in
      All-append Fit (those one) (flat_map those ones) (one_fits group x y one here.0 here.1 k.0)
      (ones_fit group twos ones (λ i d below. h (suc i) d (omega arith)) k.1)

  pairs_group_fits : (group : Group) (operands : List Valued) (atoms : List Atom) → All (OperandFits g) operands → AddsOnes group (pairs operands) [] atoms → All Fit atoms
  pairs_group_fits group operands atoms h k = subst (All Fit) (sym k.new_is) (ones_fit group (pairs operands) k.ones (pairs_fit operands h) k.each)

  pub full_fits : (operands : List Valued) (fixed less apart equal atoms : List Atom) → All (OperandFits g) operands → IsFull operands fixed less apart equal →
      atoms ≡ fixed ++ less ++ apart ++ equal → AtomsFit g atoms
  full_fits operands fixed less apart equal atoms h full e =
      subst (All Fit) (sym e)
      (All-append Fit (fixed ++ less ++ apart) equal
      (All-append Fit (fixed ++ less) apart
      (All-append Fit fixed less (subst (All Fit) (sym full.fixed_are) (fixed_fits operands h)) (pairs_group_fits Less operands less h full.less_are))
      (pairs_group_fits Apart operands apart h full.apart_are))
      (pairs_group_fits Equal operands equal h full.equal_are))

pub pattern_operands : (it : Pattern) → PatternFits it → All (OperandFits it.problem) it.operands
pattern_operands it h i d below = record { kind = h.operands i d below; not_null = h.not_null i d below }
