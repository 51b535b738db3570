-- What is kept of a branch from before the last step.
use Rattle.std.specs.Prelude.{◌≡◌, ℕ, ◌-◌, [], ◌∷◌, Option, Some, None, length, slice_get}
use Rattle.ba_facts.specs.declared.branch.Branch.{Branch}
use Rattle.ba_kernel.specs.Courses.{IsOpen, branch_of}
use Rattle.ba_kernel.specs.Steps.{Leads}
use Rattle.ba_kernel.specs.SearchStates.{Course, IsTidy}
use Rattle.ba_kernel.specs.declared.problem.Problem.{Problem}
use Rattle.ba_kernel.specs.declared.step.Step.{Step}

-- the step leads from the one branch to the other alone
pub record LeadsTo (p : Problem) (old : Branch) (step : Step) (new : Branch) : Type 0 where
  pub tidy : IsTidy p old
  pub leads : Leads p old step (new ∷ [])

abbrev pub IsLast : Course → Step → Type 0
IsLast c step = slice_get c.steps (length c.steps - 1) ≡ Some step

-- the last step led from this branch to one that is open
pub record IsBefore (c : Course) (old : Branch) : Type 0 where
  pub step : Step
  pub new : Branch
  pub last : IsLast c step
  pub open_ : IsOpen c.slots (branch_of step) new
  pub leads : LeadsTo c.problem old step new

-- what is kept, if it is
abbrev pub IsSpare : Course → Option Branch → Type 0
IsSpare c None = Unit {0}
IsSpare c (Some old) = IsBefore c old

-- the step, if it is there, is the last one, and on the branch of the number
abbrev pub IsLastOn : Course → ℕ → Option Step → Type 0
IsLastOn c n None = Unit {0}
IsLastOn c n (Some step) = IsLast c step × (branch_of step ≡ n)
