-- What a test answers, branches on which steps can be taken, and searches as contracts see them.
use Rattle.std.specs.Prelude.{◌≡◌, ℕ, ◌+◌, ◌*◌, List, [], ◌∷◌, All, length, map, Option, Some, None, slice_get, option_and_then, Result, Ok, Err, ⊤, ◌≤◌}
use Rattle.ba_model.specs.Fit.{kinds_of}
use Rattle.ba_model.specs.Limits.{most_parts, most_steps}
use Rattle.ba_model.specs.declared.failure.Failure.{Failure}
use Rattle.ba_model.specs.declared.failure.Failure.TheVariants.{NoMemory, Fault}
use Rattle.ba_model.specs.declared.schema.Schema.{Schema}
use Rattle.ba_model.specs.declared.schema.Table.{Table}
use Rattle.ba_facts.specs.Laid.{IsLaid}
use Rattle.ba_facts.specs.Known.{Known}
use Rattle.ba_facts.specs.Knowing.{IsThere}
use Rattle.ba_facts.specs.declared.branch.Branch.{Branch}
use Rattle.ba_facts.specs.declared.term.Fact.{Fact}
use Rattle.ba_kernel.specs.Courses.{AllClosed, IsOpen, ProblemFits, Runs, Slots, branch_of}
use Rattle.ba_kernel.specs.Problems.{StrongAll}
use Rattle.ba_kernel.specs.Steps.{Leads, Passes, Refuses}
use Rattle.ba_kernel.specs.declared.problem.Problem.{Problem}
use Rattle.ba_kernel.specs.declared.step.Step.{Step}
use Rattle.ba_kernel.specs.declared.step.StepFault.{StepFault}
use Rattle.ba_kernel.specs.declared.step.StepFault.TheVariants.{NoBranch}

-- a test's answer: it passes, or this is the first fault
abbrev pub Tested : Type 0 → (StepFault → Type 0) → Result ⊤ StepFault → Type 0
Tested passes refuses (Ok u) = passes
Tested passes refuses (Err fault) = refuses fault

-- ---- branches on which steps can be taken

-- the fact is of a table, has a term for each of its columns, and they are there
pub record FactIsTidy (s : Schema) (known : Known) (fact : Fact) : Type 0 where
  pub table : Table
  pub table_is : slice_get s.tables fact.table ≡ Some table
  pub wide : length fact.terms ≡ length table.columns
  pub there : All (IsThere known) fact.terms

pub record IsTidy (p : Problem) (b : Branch) : Type 0 where
  pub facts : All (FactIsTidy p.policy.schema b.known) b.facts
  pub goal : All (IsThere b.known) b.goal
  pub goal_wide : All (λ part. length part.head ≡ length b.goal) p.goal.parts
  pub params : b.params ≡ kinds_of p.policy.params
  pub vars : b.vars ≡ p.vars
  pub laid : IsLaid b

abbrev pub AllTidy : Problem → Slots → Type 0
AllTidy p slots = (n : ℕ) (b : Branch) → IsOpen slots n b → IsTidy p b

-- each open branch of a course is tidy
abbrev pub RunsAreTidy : Type 0
RunsAreTidy =
    (p : Problem) (taken : List Step) (slots : Slots) → ProblemFits p → Runs p taken slots →
    AllTidy p slots

-- ---- searches

-- what a contract sees of a search: its problem, the steps that were accepted, and the branches
-- that they leave
pub record Course : Type 0 where
  pub problem : Problem
  pub steps : List Step
  pub slots : Slots

-- the problem fits, the steps are within the limit and are accepted from its start, and the start
-- and each step gave a number for each part of a query at most
pub record IsCourse (c : Course) : Type 0 where
  pub fits : ProblemFits c.problem
  pub few : length c.steps ≤ most_steps
  pub numbers : length c.slots ≤ most_parts * (1 + length c.steps)
  pub runs : Runs c.problem c.steps c.slots

-- the branch of the number, if it is open
abbrev pub open_at : Slots → ℕ → Option Branch
open_at slots n = option_and_then (λ slot. slot) (slice_get slots n)

-- there is no open branch, or it refuses the step
abbrev pub IsRefusedAt : Problem → Option Branch → Step → StepFault → Type 0
IsRefusedAt p None step fault = fault ≡ NoBranch
IsRefusedAt p (Some b) step fault = Refuses p b step fault

abbrev pub IsRefused : Course → Step → StepFault → Type 0
IsRefused c step fault = IsRefusedAt c.problem (open_at c.slots (branch_of step)) step fault

-- there is a branch, and the step passes its tests on it
abbrev pub PassesAt : Problem → Option Branch → Step → Type 0
PassesAt p None step = ⊥
PassesAt p (Some b) step = Passes p b step

abbrev pub IsPassed : Course → Step → Type 0
IsPassed c step = PassesAt c.problem (open_at c.slots (branch_of step)) step

-- the step has this fault; or want of memory is told, which is only of a step that passes its tests
abbrev pub IsErrorOf : Course → Step → Failure StepFault → Type 0
IsErrorOf c step NoMemory = IsPassed c step
IsErrorOf c step (Fault fault) = IsRefused c step fault

-- there is a branch, and the step leads to the cases
abbrev pub LeadsAt : Problem → Option Branch → Step → List Branch → Type 0
LeadsAt p None step cases = ⊥
LeadsAt p (Some b) step cases = Leads p b step cases

abbrev pub IsLed : Course → Step → List Branch → Type 0
IsLed c step cases = LeadsAt c.problem (open_at c.slots (branch_of step)) step cases

-- what keeps the branch's number, and what gets the next ones
abbrev pub first_case : List Branch → Option Branch
first_case [] = None
first_case (b ∷ others) = Some b

abbrev pub other_cases : List Branch → List (Option Branch)
other_cases [] = []
other_cases (b ∷ others) = map Some others

-- a problem and steps that are accepted from its start, leave no branch open, and are within the
-- limit; each instance of the problem is strongly compliant
pub record IsProved (p : Problem) (taken : List Step) : Type 0 where
  pub strong : StrongAll p
  pub few : length taken ≤ most_steps
  pub slots : Slots
  pub runs : Runs p taken slots
  pub closed : AllClosed slots

-- a problem and the steps that prove it
pub record Proof : Type 0 where
  pub problem : Problem
  pub steps : List Step

-- ---- the law of the tests

-- no step passes its tests and is refused
abbrev pub PassedIsNotRefused : Type 0
PassedIsNotRefused =
    (p : Problem) (b : Branch) (step : Step) (fault : StepFault) → Passes p b step →
    ¬ (Refuses p b step fault)
