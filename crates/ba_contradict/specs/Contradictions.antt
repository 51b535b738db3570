-- Rows that a user was told of and that no database can have, and a search over them alone.
--
-- Under a policy that shows nothing any two databases look the same, and the one without a row
-- conforms. So there a question that was told a row is strongly compliant only where no database
-- shows what was told.
use Rattle.std.specs.Prelude.{◌≡◌, ◌≢◌, ℕ, List, [], ◌∷◌, All, Option, Some, None}
use Rattle.ba_comply.specs.Comply.{Shows}
use Rattle.ba_comply.specs.declared.trace.TraceEntry.{TraceEntry}
use Rattle.ba_kernel.specs.Asked.{RecordFits}
use Rattle.ba_kernel.specs.Problems.{problem_of}
use Rattle.ba_kernel.specs.declared.problem.Problem.{Problem}
use Rattle.ba_kernel.specs.declared.step.Step.{Step}
use Rattle.ba_model.specs.Conform.{Conforms}
use Rattle.ba_model.specs.Fit.{ContextFits, PolicyFits, kinds_of}
use Rattle.ba_model.specs.RuleFaults.{RuleFits}
use Rattle.ba_model.specs.SchemaFaults.{AreTables}
use Rattle.ba_model.specs.declared.policy.Context.{Context}
use Rattle.ba_model.specs.declared.policy.Policy.{Policy}
use Rattle.ba_model.specs.declared.query.Query.{Query}
use Rattle.ba_model.specs.declared.value.RowSet.{RowSet}
use Rattle.ba_model.specs.declared.value.Value.{Value}
use Rattle.ba_settle.specs.Settling.{Effort, Settles}
use Rattle.ba_settle.specs.declared.ends.Settled.{Settled}
use Rattle.ba_settle.specs.declared.ends.Settled.TheVariants.{Proved, Saturated, Spent}

-- ---- the search over told rows alone

-- the same schema and parameters, with nothing to see
abbrev pub without_views : Policy → Policy
without_views policy = record policy { views = []; keys = [] }

-- the query, after the told rows, under the policy without views
abbrev pub told_alone : Policy → Context → List TraceEntry → Query → Problem
told_alone policy c trace q = problem_of (without_views policy) c trace q

-- a search for a proof of the problem finds one, of these steps
abbrev pub ProvedBy : Problem → Effort → List Step → Type 0
ProvedBy p effort steps = Settles effort p (Proved (record { problem = p; steps = steps }))

-- no proof was found
abbrev pub IsOpenEnd : Settled → Type 0
IsOpenEnd (Proved proof) = ⊥
IsOpenEnd (Saturated leaf) = Unit {0}
IsOpenEnd (Spent steps) = Unit {0}

-- a search for a proof of the problem ends otherwise
pub record Unproved (p : Problem) (effort : Effort) : Type 0 where
  pub end : Settled
  pub ends : Settles effort p end
  pub open_ : IsOpenEnd end

-- the steps of a proof, or that none was found
abbrev pub IsOutcome : Problem → Effort → Option (List Step) → Type 0
IsOutcome p effort None = Unproved p effort
IsOutcome p effort (Some steps) = ProvedBy p effort steps

-- of a search in so many orders, in each by at most so many steps
abbrev pub effort_in : ℕ → ℕ → Effort
effort_in orders budget = record { orders = orders; budget = budget }

-- the trace begins with the entry, which has a row
pub record BeginsWith (trace : List TraceEntry) (entry : TraceEntry) : Type 0 where
  pub rest : List TraceEntry
  pub are : trace ≡ entry ∷ rest
  pub some_row : entry.rows ≢ []

-- the schema, the policy, the context and the trace are as their readers ensure
pub record ToldFits (policy : Policy) (c : Context) (trace : List TraceEntry) : Type 0 where
  pub tables : AreTables policy.schema.tables
  pub rules : All (RuleFits policy.schema) policy.schema.rules
  pub policy_fits : PolicyFits policy
  pub context : ContextFits (kinds_of policy.params) c
  pub trace_fits : All (RecordFits policy) trace

-- the trace begins with an entry that has a row, and these steps prove its query by the told rows
-- alone
pub record Closes (policy : Policy) (c : Context) (trace : List TraceEntry) (effort : Effort)
    (steps : List Step) : Type 0 where
  pub entry : TraceEntry
  pub begins : BeginsWith trace entry
  pub proved : ProvedBy (told_alone policy c trace entry.query) effort steps

-- the trace is empty, or its first entry has no row, or the search for that entry's query by the
-- told rows alone finds no proof
pub record StaysOpen (policy : Policy) (c : Context) (trace : List TraceEntry) (effort : Effort) :
    Type 0 where
  pub unproved : (entry : TraceEntry) → BeginsWith trace entry →
      Unproved (told_alone policy c trace entry.query) effort

-- ---- what that shows

-- no database that conforms to the schema shows what was told
pub record NoDatabase (policy : Policy) (c : Context) (trace : List TraceEntry) : Type 0 where
  pub none : (d : RowSet) → Conforms policy.schema d → ¬ (Shows trace c d)

-- the steps show that what was told can be in no database
pub record Contradicted (policy : Policy) (c : Context) (trace : List TraceEntry) (effort : Effort)
    (steps : List Step) : Type 0 where
  pub closes : Closes policy c trace effort steps
  pub none : NoDatabase policy c trace

-- ---- the query that is searched for

-- the query, if it has a row
abbrev pub with_row : Query → List (List Value) → Option Query
with_row q [] = None
with_row q (row ∷ rows) = Some q

-- the query of the first entry, if that has a row
abbrev pub first_told : List TraceEntry → Option Query
first_told [] = None
first_told (entry ∷ rest) = with_row entry.query entry.rows
