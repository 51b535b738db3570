-- What steps come to where they are taken in turn from a problem's start.
use Rattle.std.specs.Prelude.{◌≡◌, ◌≢◌, ℕ, List, [], length, take, Some, slice_get, Result, Ok, Err}
use Rattle.ba_model.specs.declared.failure.Failure.{Failure}
use Rattle.ba_model.specs.declared.failure.Failure.TheVariants.{NoMemory, Fault}
use Rattle.ba_kernel.specs.Courses.{AllClosed, ProblemFits, Runs, Slots, branch_of}
use Rattle.ba_kernel.specs.SearchStates.{Course, IsCourse, IsPassed, IsRefused, IsRefusedAt, Proof, open_at}
use Rattle.ba_kernel.specs.declared.problem.Problem.{Problem}
use Rattle.ba_kernel.specs.declared.replaying.ReplayFault.{ReplayFault}
use Rattle.ba_kernel.specs.declared.replaying.ReplayFault.TheVariants.{Refused, Open}
use Rattle.ba_kernel.specs.declared.step.Step.{Step}
use Rattle.ba_kernel.specs.declared.step.StepFault.{StepFault}

-- all steps are accepted in turn from the start, and leave no branch open
pub record Closes (p : Problem) (steps : List Step) : Type 0 where
  pub slots : Slots
  pub runs : Runs p steps slots
  pub closed : AllClosed slots

-- all are accepted, and leave a branch open
pub record StaysOpen (p : Problem) (steps : List Step) : Type 0 where
  pub slots : Slots
  pub runs : Runs p steps slots
  pub open_ : ¬ (AllClosed slots)

-- the steps before the number are accepted, and the step of the number is refused with this fault
pub record RefusesAt (p : Problem) (steps : List Step) (number : ℕ) (fault : StepFault) :
    Type 0 where
  pub slots : Slots
  pub runs : Runs p (take number steps) slots
  pub step : Step
  pub step_is : slice_get steps number ≡ Some step
  pub refused : IsRefusedAt p (open_at slots (branch_of step)) step fault

abbrev pub HasFault : Problem → List Step → ReplayFault → Type 0
HasFault p steps (Refused number fault) = RefusesAt p steps number fault
HasFault p steps Open = StaysOpen p steps

-- want of memory may be told: the goal has a part. Of none no branch is made, and no step is taken.
abbrev pub MayWantMemory : Problem → Type 0
MayWantMemory p = p.goal.parts ≢ []

-- the answer is the proof that the steps are, or a fault that they have; or want of memory, which
-- stands in place of either
abbrev pub Replays : Problem → List Step → Result Proof (Failure ReplayFault) → Type 0
Replays p steps (Ok proof) = Closes p steps × (proof ≡ record { problem = p; steps = steps })
Replays p steps (Err NoMemory) = MayWantMemory p
Replays p steps (Err (Fault fault)) = HasFault p steps fault

-- ---- the law

-- steps that close a problem have no fault, and others have one at most
pub record HasOneEnd (p : Problem) (steps : List Step) : Type 0 where
  pub no_fault : (fault : ReplayFault) → Closes p steps → ¬ (HasFault p steps fault)
  pub one_fault : (fault other : ReplayFault) → HasFault p steps fault → HasFault p steps other →
      fault ≡ other

abbrev pub ReplaysHaveOneEnd : Type 0
ReplaysHaveOneEnd = (p : Problem) (steps : List Step) → ProblemFits p → HasOneEnd p steps

-- ---- one step

-- the next step of a course is refused with the fault, which has its number; or want of memory is
-- told, and it passes its tests
abbrev pub IsNextRefused : Course → Step → Failure ReplayFault → Type 0
IsNextRefused c step NoMemory = IsCourse c × IsPassed c step
IsNextRefused c step (Fault Open) = ⊥
IsNextRefused c step (Fault (Refused number fault)) =
    IsCourse c × (number ≡ length c.steps) × IsRefused c step fault
