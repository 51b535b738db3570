-- What a search for the places of a template's entries finds, entry by entry.
use Rattle.std.specs.Prelude.{◌≡◌, ℕ, ◌+◌, List, [], ◌∷◌, All, Contains, Option, Some, None, slice_get}
use Rattle.std.specs.List.{AllZip, flat_map}
use Rattle.ba_model.specs.Conform.{IsOfKind}
use Rattle.ba_model.specs.declared.policy.Context.{Context}
use Rattle.ba_model.specs.declared.query.Operand.TheVariants.{Var}
use Rattle.ba_model.specs.declared.value.Value.{Value}
use Rattle.ba_comply.specs.declared.trace.TraceEntry.{TraceEntry}
use Rattle.ba_facts.specs.Matches.{Under}
use Rattle.ba_kernel.specs.Problems.{HoldsOf}
use Rattle.ba_kernel.specs.declared.problem.Problem.{Problem}
use Rattle.ba_kernel.specs.declared.problem.ProblemEntry.{ProblemEntry}
use Rattle.ba_match.specs.Bindings.{Extends}
use Rattle.ba_match.specs.Matching.{IsBefore, IsUpTo}
use Rattle.ba_template.specs.Found.{StandsAt, with_values}
use Rattle.ba_template.specs.Templates.{operands_of_entry}
use Rattle.ba_template.specs.declared.found.Match.{Match}

-- the values extend those that are fixed, are of the variables' kinds and meet the condition, and each entry that is left stands at its place
pub record IsRest (p : Problem) (c : Context) (trace : List TraceEntry) (entries : List ProblemEntry) (bound : List (Option Value)) (m : Match) : Type 0 where
  pub extends : Extends bound m.values
  pub kinds : AllZip IsOfKind p.vars m.values
  pub places : AllZip (StandsAt (with_values c m.values) trace) entries m.places
  pub condition : All (Under (HoldsOf (with_values c m.values)) []) p.assumed

pub record IsFirstRest (p : Problem) (c : Context) (trace : List TraceEntry) (entries : List ProblemEntry) (bound : List (Option Value)) (m : Match) : Type 0 where
  pub is_rest : IsRest p c trace entries bound m
  pub first : (other : Match) → IsRest p c trace entries bound other → IsUpTo m.places other.places

-- the first such rest, or that there is none
abbrev pub Finds : Problem → Context → List TraceEntry → List ProblemEntry → List (Option Value) → Option Match → Type 0
Finds p c trace entries bound None = (m : Match) → ¬ (IsRest p c trace entries bound m)
Finds p c trace entries bound (Some m) = IsFirstRest p c trace entries bound m

-- each variable that is free stands in an entry that is left
pub record IsLeft (entries : List ProblemEntry) (bound : List (Option Value)) : Type 0 where
  pub stands : (n : ℕ) → slice_get bound n ≡ Some None → Contains (flat_map operands_of_entry entries) (Var n)

-- no such rest has its first place before this one
pub record IsNoneBefore (p : Problem) (c : Context) (trace : List TraceEntry) (entries : List ProblemEntry) (bound : List (Option Value)) (place : ℕ × ℕ) : Type 0 where
  pub none : (m : Match) (a : ℕ × ℕ) (others : List (ℕ × ℕ)) → IsRest p c trace entries bound m → m.places ≡ a ∷ others → ¬ (IsBefore a place)

-- after the entry t of the trace: the first rest of all, or that none has its first place up to there
abbrev pub FindsBy : Problem → Context → List TraceEntry → List ProblemEntry → List (Option Value) → ℕ → Option Match → Type 0
FindsBy p c trace entries bound t None = IsNoneBefore p c trace entries bound (t + 1, 0)
FindsBy p c trace entries bound t (Some m) = IsFirstRest p c trace entries bound m
