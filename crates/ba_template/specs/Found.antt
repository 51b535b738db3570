-- When a template matches a question after a trace.
use Rattle.std.specs.Prelude.{◌≡◌, ℕ, List, [], All, map, Some, slice_get}
use Rattle.std.specs.List.{AllZip}
use Rattle.ba_model.specs.Conform.{IsOfKind}
use Rattle.ba_model.specs.Fit.{ContextFits, kinds_of}
use Rattle.ba_model.specs.declared.policy.Context.{Context}
use Rattle.ba_model.specs.declared.policy.Policy.{Policy}
use Rattle.ba_model.specs.declared.query.Query.{Query}
use Rattle.ba_model.specs.declared.value.Value.{Value}
use Rattle.ba_comply.specs.Comply.{Strong}
use Rattle.ba_comply.specs.declared.trace.TraceEntry.{TraceEntry}
use Rattle.ba_facts.specs.Fits.{Instance}
use Rattle.ba_facts.specs.Matches.{Under}
use Rattle.ba_kernel.specs.Problems.{HoldsOf, StrongAll, fixed_value, query_at}
use Rattle.ba_kernel.specs.declared.problem.Problem.{Problem}
use Rattle.ba_kernel.specs.declared.problem.ProblemEntry.{ProblemEntry}
use Rattle.ba_template.specs.declared.found.Match.{Match}

-- the context with these values for the variables
abbrev pub with_values : Context → List Value → Instance
with_values c values = record { context = c; vars = values }

-- under the instance the entry's query and row stand at the place of the trace: the number of an entry there, and of one of its rows
pub record StandsAt (i : Instance) (trace : List TraceEntry) (entry : ProblemEntry) (place : ℕ × ℕ) : Type 0 where
  pub of : TraceEntry
  pub row : List Value
  pub entry_is : slice_get trace place.0 ≡ Some of
  pub row_is : slice_get of.rows place.1 ≡ Some row
  pub query : of.query ≡ query_at i.vars entry.query
  pub values : map (fixed_value i) entry.row ≡ map Some row

-- The problem's policy is this one, and with the values, each of its variable's kind, the goal is the question, each entry stands at its place of the trace,
-- and the condition is true.
pub record IsMatch (p : Problem) (policy : Policy) (c : Context) (trace : List TraceEntry) (q : Query) (m : Match) : Type 0 where
  pub policy_is : p.policy ≡ policy
  pub kinds : AllZip IsOfKind p.vars m.values
  pub question : query_at m.values p.goal ≡ q
  pub places : AllZip (StandsAt (with_values c m.values) trace) p.entries m.places
  pub condition : All (Under (HoldsOf (with_values c m.values)) []) p.assumed

-- some values and places are a match
abbrev pub Matches : Problem → Policy → Context → List TraceEntry → Query → Type 0
Matches p policy c trace q = (m : Match) × IsMatch p policy c trace q m

-- what a template matches is strongly compliant
abbrev pub MatchedIsStrong : Type 0
MatchedIsStrong = (p : Problem) (policy : Policy) (c : Context) (trace : List TraceEntry) (q : Query) (m : Match) →
    StrongAll p → ContextFits (kinds_of policy.params) c → IsMatch p policy c trace q m → Strong policy c trace q
