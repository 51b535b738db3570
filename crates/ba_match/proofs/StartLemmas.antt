-- A match is a rest of the search's start, and the other way round.
use Rattle.std.proofs.Common.{◌≡◌, Bool, true, false, ℕ, ◌<◌, List, [], ◌∷◌, length, sym, subst, replicate}
use Rattle.std.proofs.lemmas.List.{length-replicate}
use Rattle.std.proofs.lemmas.Option.{slice_get_within}
use Rattle.std.proofs.lemmas.Slice.Zip.{AllZip-long}
use Rattle.std.proofs.lemmas.Result.{IfOk-weaker}
use Rattle.std.specs.Prelude.{IfOk, IsTrue, Option, Some, None, Result, slice_get}
use Rattle.ba_model.specs.Conform.{IsOfKind}
use Rattle.ba_model.specs.declared.policy.Context.{Context}
use Rattle.ba_model.specs.declared.policy.Policy.{Policy}
use Rattle.ba_model.specs.declared.query.Query.{Query}
use Rattle.ba_model.specs.declared.value.Value.{Value}
use Rattle.ba_comply.specs.declared.trace.TraceEntry.{TraceEntry}
use Rattle.ba_kernel.specs.Problems.{query_at}
use Rattle.ba_kernel.specs.declared.problem.Problem.{Problem}
use Rattle.ba_kernel.specs.declared.problem.ProblemEntry.{ProblemEntry}
use Rattle.ba_match.proofs.SearchLemmas.{left_of_goal}
use Rattle.ba_match.specs.Bindings.{Extends, Narrows}
use Rattle.ba_match.specs.Matching.{IsFound}
use Rattle.ba_match.specs.Searches.{Finds, IsLeft, IsRest}
use Rattle.ba_template.specs.Found.{IsMatch}
use Rattle.ba_template.specs.Templates.{EachVarStands}
use Rattle.ba_template.specs.declared.found.Match.{Match}

extends_free : (values : List Value) → Extends (replicate (length values) None) values
extends_free [] = tt
extends_free (v ∷ values) = (tt, extends_free values)

module _ (p : Problem) (policy : Policy) (c : Context) (trace : List TraceEntry) (q : Query) (free bound : List (Option Value)) (told : Bool)
    (is_free : free ≡ replicate (length p.vars) None) (h : Narrows (λ v. query_at v p.goal ≡ q) free bound told) where
  into : (m : Match) → IsMatch p policy c trace q m → IsTrue told × IsRest p c trace p.entries bound m
  into m is =
      let extends : Extends free m.values =
      subst (λ b. Extends b m.values) (sym is_free)
      (subst (λ n. Extends (replicate n None) m.values) (AllZip-long IsOfKind p.vars m.values is.kinds) (extends_free m.values)) in
      let two = h.complete m.values extends is.question in
      (two.0, record { extends = two.1; kinds = is.kinds; places = is.places; condition = is.condition })

  out : IsTrue told → p.policy ≡ policy → (m : Match) → IsRest p c trace p.entries bound m → IsMatch p policy c trace q m
  out t same m is =
      record {
        policy_is = same;
        kinds = is.kinds;
        question = (h.sound m.values t is.extends).1;
        places = is.places;
        condition = is.condition;
      }

  pub found_untold : told ≡ false → IsFound p policy c trace q None
  found_untold e it = let t : IsTrue told = (into it.0 it.1).0 in let f : told ≡ false = e in cc

  pub found_other : (p.policy ≡ policy → ⊥) → IsFound p policy c trace q None
  found_other never it = never (it.1).policy_is

  pub found_all : told ≡ true → p.policy ≡ policy → (result : Option Match) → Finds p c trace p.entries bound result → IsFound p policy c trace q result
  found_all e same None finds = λ it. finds it.0 (into it.0 it.1).1
  found_all e same (Some m) finds =
      record { is_match = out (let t : told ≡ true = e in cc) same m finds.is_rest; first = λ other is. finds.first other (into other is).1 }

  pub left_at_start : EachVarStands p → told ≡ true → IsLeft p.entries bound
  left_at_start each e =
      left_of_goal p q free bound each within (subst (Narrows (λ v. query_at v p.goal ≡ q) free bound) e h)
    where
      within : (n : ℕ) → slice_get free n ≡ Some None → n < length p.vars
      within n at =
          let below = slice_get_within free n None at in
          let long : length (replicate (length p.vars) None) ≡ length p.vars = length-replicate (length p.vars) None in
          subst (λ k. n < k) long (subst (λ b. n < length b) is_free below)

-- the same for a template's problem, by what was read of it
module _ (own p : Problem) (is : p ≡ own) (policy : Policy) (c : Context) (trace : List TraceEntry) (q : Query) (n : ℕ) (n_is : n ≡ length p.vars)
    (goal : Query) (goal_is : goal ≡ p.goal) (free bound : List (Option Value)) (told : Bool) (are_free : free ≡ replicate n None)
    (h : Narrows (λ v. query_at v goal ≡ q) free bound told) where
  all_free : free ≡ replicate (length p.vars) None
  all_free = subst (λ k. free ≡ replicate k None) n_is are_free

  narrowed_goal : Narrows (λ v. query_at v p.goal ≡ q) free bound told
  narrowed_goal = subst (λ g. Narrows (λ v. query_at v g ≡ q) free bound told) goal_is h

  pub template_untold : told ≡ false → IsFound own policy c trace q None
  template_untold e = subst (λ x. IsFound x policy c trace q None) is (found_untold p policy c trace q free bound told all_free narrowed_goal e)

  pub template_other : (r : Bool) → (p.policy ≡ policy → IsTrue r) → r ≡ false → IsFound own policy c trace q None
  template_other r tells f =
      subst (λ x. IsFound x policy c trace q None) is
      (found_other p policy c trace q free bound told all_free narrowed_goal (λ same. let t : IsTrue r = tells same in let u : r ≡ false = f in cc))

  module _ (entries : List ProblemEntry) (are : entries ≡ p.entries) (e : told ≡ true) where
    pub template_left : EachVarStands p → IsLeft entries bound
    template_left each = subst (λ es. IsLeft es bound) (sym are) (left_at_start p policy c trace q free bound told all_free narrowed_goal each e)

    pub template_found : {E : Type 0} (result : Result (Option Match) E) (r : Bool) → (IsTrue r → p.policy ≡ policy) → r ≡ true →
        IfOk result (Finds p c trace entries bound) → IfOk result (IsFound own policy c trace q)
    template_found result r tells t =
        IfOk-weaker result (Finds p c trace entries bound) (IsFound own policy c trace q)
        (λ found finds. subst (λ x. IsFound x policy c trace q found) is
        (found_all p policy c trace q free bound told all_free narrowed_goal e (tells (let u : r ≡ true = t in cc)) found
        (subst (λ es. Finds p c trace es bound found) are finds)))
