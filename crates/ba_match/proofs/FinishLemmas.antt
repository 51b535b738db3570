-- Where all variables are fixed, and what a step leaves fixed.
use Rattle.std.proofs.Common.{◌≡◌, Bool, true, false, ℕ, List, [], ◌∷◌, map, refl, ap₂, subst, sym}
use Rattle.std.specs.List.{All, AllZip}
use Rattle.std.specs.Prelude.{IsTrue, Option, Some}
use Rattle.ba_model.specs.Conform.{IsOfKind}
use Rattle.ba_model.specs.declared.policy.Context.{Context}
use Rattle.ba_model.specs.declared.query.Atom.{Atom}
use Rattle.ba_model.specs.declared.schema.Kind.{Kind}
use Rattle.ba_model.specs.declared.value.Value.{Value}
use Rattle.ba_comply.specs.declared.trace.TraceEntry.{TraceEntry}
use Rattle.ba_facts.specs.Matches.{Under}
use Rattle.ba_kernel.specs.Problems.{HoldsOf}
use Rattle.ba_kernel.specs.declared.problem.Problem.{Problem}
use Rattle.ba_match.specs.Bindings.{AreAllFixed, Extends, IsNarrowed, Narrows}
use Rattle.ba_match.specs.Searches.{IsFirstRest, IsRest}
use Rattle.ba_template.specs.Found.{with_values}
use Rattle.ba_template.specs.declared.found.Match.{Match}

extends_itself : (values : List Value) → Extends (map Some values) values
extends_itself [] = tt
extends_itself (v ∷ values) = (refl, extends_itself values)

extends_only : (values v : List Value) → Extends (map Some values) v → values ≡ v
extends_only [] [] h = refl
extends_only [] (w ∷ v) h = absurd h
extends_only (u ∷ values) [] h = absurd h
extends_only (u ∷ values) (w ∷ v) h = ap₂ (λ x xs. x ∷ xs) h.0 (extends_only values v h.1)

module _ (p : Problem) (c : Context) (trace : List TraceEntry) (bound : List (Option Value)) (values : List Value) (fixed : bound ≡ map Some values) where
  abbrev Meets : List Value → Type 0
  Meets v = All (Under (HoldsOf (with_values c v)) []) p.assumed

  are_these : (m : Match) → IsRest p c trace [] bound m → values ≡ m.values
  are_these m h = extends_only values m.values (subst (λ b. Extends b m.values) fixed h.extends)

  pub not_of_kinds : (AllZip IsOfKind p.vars values → ⊥) → (m : Match) → IsRest p c trace [] bound m → ⊥
  not_of_kinds never m h = never (subst (AllZip IsOfKind p.vars) (sym (are_these m h)) h.kinds)

  pub not_met : (Meets values → ⊥) → (m : Match) → IsRest p c trace [] bound m → ⊥
  not_met never m h = never (subst Meets (sym (are_these m h)) h.condition)

  pub first_rest : AllZip IsOfKind p.vars values → Meets values → IsFirstRest p c trace [] bound (record { values = values; places = [] })
  first_rest kinds met =
      record {
        is_rest = record { extends = subst (λ b. Extends b values) (sym fixed) (extends_itself values); kinds = kinds; places = tt; condition = met };
        first = λ other h. tt;
      }

-- the same by what was tested
module _ (p : Problem) (c : Context) (trace : List TraceEntry) (bound : List (Option Value)) (found : Option (List Value)) (values : List Value)
    (all : AreAllFixed bound found) (is : found ≡ Some values) where
  fixed : bound ≡ map Some values
  fixed = subst (AreAllFixed bound) is all

  module _ (vars : List Kind) (shown : List Value) (vars_are : vars ≡ p.vars) (shown_are : shown ≡ values) (r : Bool) where
    pub kinds_refused : (AllZip IsOfKind vars shown → IsTrue r) → r ≡ false → (m : Match) → IsRest p c trace [] bound m → ⊥
    kinds_refused tells f =
        not_of_kinds p c trace bound values fixed
        (λ k. let t : IsTrue r = tells (subst (λ vs. AllZip IsOfKind vs shown) (sym vars_are) (subst (AllZip IsOfKind p.vars) (sym shown_are) k)) in cc)

    pub kinds_told : (IsTrue r → AllZip IsOfKind vars shown) → r ≡ true → AllZip IsOfKind p.vars values
    kinds_told tells e = subst (λ vs. AllZip IsOfKind vs values) vars_are (subst (AllZip IsOfKind vars) shown_are (tells (let t : r ≡ true = e in cc)))

  module _ (atoms : List Atom) (shown : List Value) (atoms_are : atoms ≡ p.assumed) (shown_are : shown ≡ values) (r : Bool) where
    abbrev AllHold : List Value → List Atom → Type 0
    AllHold v xs = All (Under (HoldsOf (with_values c v)) []) xs

    pub condition_refused : (AllHold shown atoms → IsTrue r) → r ≡ false → (m : Match) → IsRest p c trace [] bound m → ⊥
    condition_refused tells f =
        not_met p c trace bound values fixed
        (λ k. let t : IsTrue r = tells (subst (AllHold shown) (sym atoms_are) (subst (λ v. AllHold v p.assumed) (sym shown_are) k)) in cc)

    pub condition_told : (IsTrue r → AllHold shown atoms) → r ≡ true → AllHold values p.assumed
    condition_told tells e = subst (AllHold values) atoms_are (subst (λ v. AllHold v atoms) shown_are (tells (let t : r ≡ true = e in cc)))

  pub finished : (places : List (ℕ × ℕ)) → places ≡ [] → AllZip IsOfKind p.vars values → All (Under (HoldsOf (with_values c values)) []) p.assumed →
      IsFirstRest p c trace [] bound (record { values = values; places = places })
  finished places none kinds met =
      subst (λ ps. IsFirstRest p c trace [] bound (record { values = values; places = ps })) (sym none) (first_rest p c trace bound values fixed kinds met)

module _ (P : List Value → Type 0) (old copied new : List (Option Value)) (same : copied ≡ old) (t : Bool) (h : Narrows P copied new t) where
  pub narrowed : t ≡ true → IsNarrowed P old (Some new)
  narrowed e = subst (λ b. Narrows P b new true) same (subst (Narrows P copied new) e h)

  pub not_narrowed : t ≡ false → (v : List Value) → Extends old v → P v → ⊥
  not_narrowed e v extends holds =
      let told : IsTrue t = (h.complete v (subst (λ b. Extends b v) (sym same) extends) holds).0 in
      let untold : t ≡ false = e in cc
