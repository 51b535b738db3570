-- What is known of an atom is so of it for all values that extend what is fixed.
use Rattle.std.proofs.Common.{◌≡◌, ◌∙◌, Bool, false, List, [], sym, ap, subst}
use Rattle.std.proofs.lemmas.List.Elements.{All-weaker}
use Rattle.std.specs.List.{All}
use Rattle.std.specs.Prelude.{IsTrue, Option, Some, None, option_and_then, slice_get}
use Rattle.ba_model.specs.Meaning.{Compares}
use Rattle.ba_model.specs.declared.policy.Context.{Context}
use Rattle.ba_model.specs.declared.query.Atom.{Atom}
use Rattle.ba_model.specs.declared.query.Operand.{Operand}
use Rattle.ba_model.specs.declared.query.Operand.TheVariants.{Col, Val, Param, Var}
use Rattle.ba_model.specs.declared.value.Value.{Value}
use Rattle.ba_comply.specs.declared.trace.TraceEntry.{TraceEntry}
use Rattle.ba_facts.specs.Fits.{value_of_term}
use Rattle.ba_facts.specs.Matches.{Under}
use Rattle.ba_kernel.specs.Problems.{HoldsOf, fixed_value}
use Rattle.ba_kernel.specs.declared.problem.Problem.{Problem}
use Rattle.ba_kernel.specs.declared.problem.ProblemEntry.{ProblemEntry}
use Rattle.ba_match.proofs.BindingLemmas.{fixed_at}
use Rattle.ba_match.specs.Bindings.{Extends}
use Rattle.ba_match.specs.Conditions.{MayHold, known_value}
use Rattle.ba_match.specs.Searches.{IsRest}
use Rattle.ba_template.specs.Found.{with_values}
use Rattle.ba_template.specs.declared.found.Match.{Match}

both_fixed : (o : Option (Option Value)) (v : Value) → option_and_then (λ fixed. fixed) o ≡ Some v → o ≡ Some (Some v)
both_fixed None v e = absurd (cc)
both_fixed (Some None) v e = absurd (cc)
both_fixed (Some (Some w)) v e = ap Some e

module _ (c : Context) (bound : List (Option Value)) (values : List Value) (h : Extends bound values) where
  same_known : (x : Operand) (v w : Value) → known_value c bound x ≡ Some v → fixed_value (with_values c values) x ≡ Some w → w ≡ v
  same_known (Col place column) v w known is = absurd (cc)
  same_known (Val u) v w known is = cc
  same_known (Param n) v w known is = cc
  same_known (Var n) v w known is =
      let at = fixed_at bound values n (Some v) h (both_fixed (slice_get bound n) v known) in
      let first : slice_get values n ≡ Some at.0 = at.1 in
      let second : v ≡ at.0 = at.2 in
      let third : slice_get values n ≡ Some w = is in cc

  pub may : (atom : Atom) → Under (HoldsOf (with_values c values)) [] atom → MayHold c bound atom
  may atom holds = record {
    compared = λ a b ka kb.
        let left : fixed_value (with_values c values) atom.left ≡ Some holds.holds.left =
        ap (option_and_then (value_of_term (with_values c values) [])) holds.left_is ∙ holds.holds.left_is in
        let right : fixed_value (with_values c values) atom.right ≡ Some holds.holds.right =
        ap (option_and_then (value_of_term (with_values c values) [])) holds.right_is ∙ holds.holds.right_is in
        subst (λ x. Compares atom.op x b) (same_known atom.left a holds.holds.left ka left)
        (subst (λ y. Compares atom.op holds.holds.left y) (same_known atom.right b holds.holds.right kb right) holds.holds.compared);
  }

-- where some atom is known to be false no values meet the condition
pub none_may : (p : Problem) (c : Context) (trace : List TraceEntry) (entries : List ProblemEntry) (bound : List (Option Value)) →
    (All (MayHold c bound) p.assumed → ⊥) → (m : Match) → IsRest p c trace entries bound m → ⊥
none_may p c trace entries bound never m is =
    never (All-weaker (Under (HoldsOf (with_values c m.values)) []) (MayHold c bound) (may c bound m.values is.extends) p.assumed is.condition)

pub none_known : (p : Problem) (c : Context) (trace : List TraceEntry) (entries : List ProblemEntry) (bound : List (Option Value)) (atoms : List Atom) (r : Bool) →
    atoms ≡ p.assumed → (All (MayHold c bound) atoms → IsTrue r) → r ≡ false → (m : Match) → IsRest p c trace entries bound m → ⊥
none_known p c trace entries bound atoms r are tells f =
    none_may p c trace entries bound (λ k. let t : IsTrue r = tells (subst (All (MayHold c bound)) (sym are) k) in let u : r ≡ false = f in cc)
