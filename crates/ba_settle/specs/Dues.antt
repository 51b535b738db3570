-- Due steps, the lists of them that a search takes, and how a search ends.
use Rattle.std.specs.Prelude.{◌≡◌, ◌≢◌, ℕ, ◌<◌, ◌≤◌, List, [], ◌∷◌, ◌++◌, length}
use Rattle.std.specs.declared.cmp.Ordering.TheVariants.{Greater}
use Rattle.ba_facts.specs.declared.branch.Branch.{Branch}
use Rattle.ba_kernel.specs.Courses.{AllClosed, IsOpen, IsStart, ProblemFits, Runs, Slots, Takes, branch_of}
use Rattle.ba_kernel.specs.News.{IsNewOn}
use Rattle.ba_kernel.specs.Steps.{IsRound}
use Rattle.ba_kernel.specs.SearchStates.{Proof}
use Rattle.ba_kernel.specs.declared.problem.Problem.{Problem}
use Rattle.ba_kernel.specs.declared.step.Step.{Step}
use Rattle.ba_settle.specs.Order.{pick_cmp}
use Rattle.ba_settle.specs.declared.order.Pick.{Pick}
use Rattle.ba_settle.specs.declared.order.Pick.TheVariants.{Last}
use Rattle.ba_settle.specs.declared.ends.Leaf.{Leaf}
use Rattle.ba_settle.specs.declared.ends.Settled.{Settled}
use Rattle.ba_settle.specs.declared.ends.Settled.TheVariants.{Proved, Saturated, Spent}

-- ---- due steps

-- the step is new on its branch, which is open, and no new step there has a lesser round
pub record IsDueStep (p : Problem) (slots : Slots) (step : Step) : Type 0 where
  pub branch : Branch
  pub open_ : IsOpen slots (branch_of step) branch
  pub new_ : IsNewOn p branch step
  pub round : ℕ
  pub round_is : IsRound p branch step round
  pub least : (other : Step) (its_round : ℕ) → branch_of other ≡ branch_of step →
      IsNewOn p branch other → IsRound p branch other its_round → round ≤ its_round

-- of the steps that are due on open branches it is the one that is taken
pub record IsPicked (pick : Pick) (p : Problem) (slots : Slots) (step : Step) : Type 0 where
  pub due : IsDueStep p slots step
  pub first : (other : Step) → IsDueStep p slots other → pick_cmp pick step other ≢ Greater

-- the branch is open and no step on it is new
pub record IsSaturated (p : Problem) (slots : Slots) (number : ℕ) (branch : Branch) : Type 0 where
  pub open_ : IsOpen slots number branch
  pub none_new : (step : Step) → branch_of step ≡ number → ¬ (IsNewOn p branch step)

-- some step is new on the branch
pub record HasNew (p : Problem) (number : ℕ) (branch : Branch) : Type 0 where
  pub step : Step
  pub on : branch_of step ≡ number
  pub new_ : IsNewOn p branch step

-- each open branch below the number has a new step
abbrev pub HaveNewBelow : Problem → Slots → ℕ → Type 0
HaveNewBelow p slots bound =
    (number : ℕ) (branch : Branch) → number < bound → IsOpen slots number branch →
    HasNew p number branch

-- each open branch has a new step, so that none is saturated
abbrev pub EachHasNew : Problem → Slots → Type 0
EachHasNew p slots = HaveNewBelow p slots (length slots)

-- ---- lists of due steps

-- A due list: steps that are accepted in turn from the problem's start, each of them picked of all
-- due ones at its time. These are the branches that it leaves.
pub data DueList (pick : Pick) (p : Problem) : List Step → Slots → Type 0 where
  start : {slots : Slots} → IsStart p slots → DueList pick p [] slots
  next : {taken : List Step} {step : Step} {old new : Slots} → DueList pick p taken old →
      IsPicked pick p old step → Takes p old step new → DueList pick p (taken ++ step ∷ []) new

-- A late due list: at each time the last of all due steps is taken, and not the first.
abbrev pub LateDueList : Problem → List Step → Slots → Type 0
LateDueList p taken slots = DueList Last p taken slots

-- A due list, before each step of which every open branch has a new step.
pub data Searches (pick : Pick) (p : Problem) : List Step → Slots → Type 0 where
  start : {slots : Slots} → IsStart p slots → Searches pick p [] slots
  next : {taken : List Step} {step : Step} {old new : Slots} → Searches pick p taken old →
      EachHasNew p old → IsPicked pick p old step → Takes p old step new →
      Searches pick p (taken ++ step ∷ []) new

-- ---- how a search ends

-- the steps leave no branch open
pub record EndsProved (pick : Pick) (p : Problem) (budget : ℕ) (proof : Proof) : Type 0 where
  pub problem_is : proof.problem ≡ p
  pub slots : Slots
  pub searches : Searches pick p proof.steps slots
  pub few : length proof.steps ≤ budget
  pub closed : AllClosed slots

-- the leaf's steps are accepted from its problem's start, and leave its branch, which is saturated
pub record IsLeaf (leaf : Leaf) : Type 0 where
  pub slots : Slots
  pub runs : Runs leaf.problem leaf.steps slots
  pub number : ℕ
  pub saturated : IsSaturated leaf.problem slots number leaf.branch

-- the steps leave the leaf's branch, which is the least saturated one
pub record EndsSaturated (pick : Pick) (p : Problem) (budget : ℕ) (leaf : Leaf) : Type 0 where
  pub problem_is : leaf.problem ≡ p
  pub slots : Slots
  pub searches : Searches pick p leaf.steps slots
  pub few : length leaf.steps ≤ budget
  pub number : ℕ
  pub saturated : IsSaturated p slots number leaf.branch
  pub least : HaveNewBelow p slots number

-- the steps are as many as the budget, leave a branch open, and each open branch has a new step
pub record EndsSpent (pick : Pick) (p : Problem) (budget : ℕ) (taken : List Step) : Type 0 where
  pub slots : Slots
  pub searches : Searches pick p taken slots
  pub spent : length taken ≡ budget
  pub some_open : ¬ (AllClosed slots)
  pub each : EachHasNew p slots

abbrev pub Ends : Pick → Problem → ℕ → Settled → Type 0
Ends pick p budget (Proved proof) = EndsProved pick p budget proof
Ends pick p budget (Saturated leaf) = EndsSaturated pick p budget leaf
Ends pick p budget (Spent taken) = EndsSpent pick p budget taken

-- ---- the laws

-- a leaf that a search ends at is one
abbrev pub EndsAreLeaves : Type 0
EndsAreLeaves =
    (pick : Pick) (p : Problem) (budget : ℕ) (leaf : Leaf) → EndsSaturated pick p budget leaf →
    IsLeaf leaf

-- the steps of a search are a due list
abbrev pub SearchesAreDue : Type 0
SearchesAreDue =
    (pick : Pick) (p : Problem) (taken : List Step) (slots : Slots) → Searches pick p taken slots →
    DueList pick p taken slots

-- one step at most is picked
abbrev pub PickedIsOne : Type 0
PickedIsOne =
    (pick : Pick) (p : Problem) (slots : Slots) (step other : Step) → IsPicked pick p slots step →
    IsPicked pick p slots other → step ≡ other

-- a problem has one due list at most of each length, and the branches that it leaves are one
abbrev pub DueListsAreOne : Type 0
DueListsAreOne = (pick : Pick) (p : Problem) (taken others : List Step) (slots ends : Slots) →
    ProblemFits p → DueList pick p taken slots → DueList pick p others ends →
    length taken ≡ length others → (taken ≡ others) × (slots ≡ ends)
