-- What a check comes to: the proof that the steps are, or why they aren't one.
use Rattle.std.specs.Prelude.{◌≡◌, ℕ, ◌<◌, List, All, is_some, count_by, length, Result, Ok, Err}
use Rattle.ba_model.specs.Fit.{ContextFits, PolicyFits, kinds_of}
use Rattle.ba_model.specs.SchemaFaults.{AreTables}
use Rattle.ba_model.specs.declared.failure.Failure.{Failure}
use Rattle.ba_model.specs.declared.failure.Failure.TheVariants.{NoMemory, Fault}
use Rattle.ba_model.specs.declared.policy.Context.{Context}
use Rattle.ba_model.specs.declared.policy.Policy.{Policy}
use Rattle.ba_model.specs.declared.query.Query.{Query}
use Rattle.ba_comply.specs.Comply.{Strong}
use Rattle.ba_comply.specs.declared.trace.TraceEntry.{TraceEntry}
use Rattle.ba_model.specs.RuleFaults.{RuleFits}
use Rattle.ba_kernel.specs.Asked.{QuestionFits}
use Rattle.ba_kernel.specs.Courses.{Runs, Slots}
use Rattle.ba_kernel.specs.Problems.{problem_of}
use Rattle.ba_kernel.specs.Replays.{Closes, MayWantMemory, RefusesAt}
use Rattle.ba_kernel.specs.SearchStates.{Course, IsCourse, IsPassed, IsRefused, Proof}
use Rattle.ba_kernel.specs.declared.problem.Problem.{Problem}
use Rattle.ba_kernel.specs.declared.step.Step.{Step}
use Rattle.ba_proof.specs.declared.checking.CheckFault.{CheckFault}
use Rattle.ba_proof.specs.declared.checking.CheckFault.TheVariants.{NotShown, StillOpen}

-- how many branches are open
abbrev pub open_count : Slots → ℕ
open_count slots = count_by is_some slots

-- all steps are accepted in turn from the start, and leave so many branches open
pub record LeavesOpen (p : Problem) (steps : List Step) (branches : ℕ) : Type 0 where
  pub slots : Slots
  pub runs : Runs p steps slots
  pub count : branches ≡ open_count slots
  pub some : 0 < branches

-- the step of the number is the first that isn't accepted; or all are, and branches are open
abbrev pub HasFault : Problem → List Step → CheckFault → Type 0
HasFault p steps (NotShown step fault) = RefusesAt p steps step fault
HasFault p steps (StillOpen branches) = LeavesOpen p steps branches

-- the answer is the proof that the steps are, or a fault that they have; or want of memory, which
-- stands in place of either
abbrev pub Checks : Problem → List Step → Result Proof (Failure CheckFault) → Type 0
Checks p steps (Ok proof) = Closes p steps × (proof ≡ record { problem = p; steps = steps })
Checks p steps (Err NoMemory) = MayWantMemory p
Checks p steps (Err (Fault fault)) = HasFault p steps fault

-- whatever question it is the problem of is strongly compliant under its context and after its rows
abbrev pub IsStrongQuestion : Problem → Type 0
IsStrongQuestion p = (policy : Policy) (c : Context) (trace : List TraceEntry) (q : Query) → ContextFits (kinds_of policy.params) c →
    p ≡ problem_of policy c trace q → Strong policy c trace q

-- it is the problem of a question: of a context, recorded rows and a query that fit the policy
pub record IsAsked (policy : Policy) (p : Problem) : Type 0 where
  pub context : Context
  pub trace : List TraceEntry
  pub query : Query
  pub fits : QuestionFits policy context trace query
  pub is : p ≡ problem_of policy context trace query

-- and where a check accepts a proof of it, that question is strongly compliant
abbrev pub AcceptedIsStrong : Type 0
AcceptedIsStrong = (policy : Policy) (p : Problem) (asked : IsAsked policy p) → IsStrongQuestion p → Strong policy asked.context asked.trace asked.query

-- a policy as its reader ensures: its schema's tables, rules and views are checked
pub record IsPolicy (policy : Policy) : Type 0 where
  pub tables : AreTables policy.schema.tables
  pub rules : All (RuleFits policy.schema) policy.schema.rules
  pub views : PolicyFits policy

-- ---- one step

-- the next step of a course is refused with the fault, which has its number; or want of memory is
-- told, and it passes its tests
abbrev pub IsNextFault : Course → Step → Failure CheckFault → Type 0
IsNextFault c step NoMemory = IsCourse c × IsPassed c step
IsNextFault c step (Fault (StillOpen branches)) = ⊥
IsNextFault c step (Fault (NotShown number fault)) = IsCourse c × (number ≡ length c.steps) × IsRefused c step fault
