-- What a search does next.
use Rattle.std.specs.Prelude.{◌≡◌, ◌≢◌, ◌⊎◌, ℕ, ◌+◌, ◌<◌, ◌≤◌, Bool, false, true, IsTrue, List, Option, Some, None, length}
use Rattle.std.specs.Ordering.{is_gt}
use Rattle.std.specs.declared.cmp.Ordering.TheVariants.{Greater}
use Rattle.ba_facts.specs.declared.branch.Branch.{Branch}
use Rattle.ba_kernel.specs.Courses.{AllClosed, IsOpen, branch_of}
use Rattle.ba_kernel.specs.SearchStates.{Course, open_at}
use Rattle.ba_kernel.specs.declared.problem.Problem.{Problem}
use Rattle.ba_kernel.specs.declared.step.Step.{Step}
use Rattle.ba_kernel.specs.declared.step.Step.TheVariants as steps
use Rattle.ba_facts.specs.declared.term.TermAtom.{TermAtom}
use Rattle.ba_settle.specs.Dues.{EachHasNew, HasNew, HaveNewBelow, IsDueStep, IsPicked, IsSaturated, Searches}
use Rattle.ba_instant.specs.Offers.{Improves, IsDueIfAny, IsRoundIn, first_by}
use Rattle.ba_settle.specs.Order.{pick_cmp}
use Rattle.ba_instant.specs.QuietSteps.{AddsToOneAt, IsQuietStep}
use Rattle.ba_instant.specs.Agendas.{IsAgenda, IsAgendaAt, IsNone}
use Rattle.ba_instant.specs.Loose.{IsLooseAtom, IsQuietBeside}
use Rattle.ba_instant.specs.ToldSteps.{AreRemembered, AreTold}
use Rattle.ba_instant.specs.declared.scan.NewStep.{NewStep}
use Rattle.ba_instant.specs.declared.due.Next.{Next}
use Rattle.ba_instant.specs.declared.waiting.Waiting.{Waiting}
use Rattle.ba_instant.specs.declared.due.Next.TheVariants as nexts
use Rattle.ba_settle.specs.declared.ends.Leaf.{Leaf}
use Rattle.ba_settle.specs.declared.ends.Settled.{Settled}
use Rattle.ba_instant.specs.declared.agenda.Agenda.{Agenda}
use Rattle.ba_instant.specs.declared.batch.Batch.{Batch}
use Rattle.ba_instant.specs.declared.due.Due.{Due}
use Rattle.ba_instant.specs.declared.due.OpenBranch.{OpenBranch}
use Rattle.ba_settle.specs.declared.ends.Settled.TheVariants as settled
use Rattle.ba_settle.specs.declared.order.Pick.{Pick}
use Rattle.ba_settle.specs.declared.order.Pick.TheVariants.{First, Last}

-- the step is the one that is taken, with its round, each open branch has a new step, and the
-- agenda is that of its branch
pub record IsTaken (pick : Pick) (c : Course) (it : Due) : Type 0 where
  pub each : EachHasNew c.problem c.slots
  pub picked : IsPicked pick c.problem c.slots it.found.step
  pub round_is : IsRoundIn c it.found.step it.found.round
  pub agenda : IsAgendaAt pick c (branch_of it.found.step) it.agenda

-- the branch of the number is the least that is saturated
pub record IsLeastSaturated (c : Course) (number : ℕ) : Type 0 where
  pub branch : Branch
  pub saturated : IsSaturated c.problem c.slots number branch
  pub least : HaveNewBelow c.problem c.slots number

abbrev pub IsNext : Pick → Course → Next → Type 0
IsNext pick c nexts.Closed = AllClosed c.slots
IsNext pick c (nexts.Saturated number) = IsLeastSaturated c number
IsNext pick c (nexts.Take it) = IsTaken pick c it

-- the other one only where its step is picked earlier
abbrev pub first_step : Pick → Option Due → Due → Option Due
first_step pick None it = Some it
first_step pick (Some best) it =
    first_by (is_gt (pick_cmp pick best.found.step it.found.step)) best it

-- ---- an open branch

-- it is open, and this is an agenda of it
abbrev pub IsOpenOne : OpenBranch → Type 0
IsOpenOne it = IsOpen it.search.now.slots it.number it.branch.now

-- what is told of it is
abbrev pub AreToldOn : OpenBranch → Type 0
AreToldOn it = AreTold it.search.now.problem it.branch.now it.told.now

abbrev pub IsAgendaOn : OpenBranch → Agenda → Type 0
IsAgendaOn it agenda = IsAgenda it.pick it.search.now.problem it.number it.branch.now agenda

-- the new steps of the set on it that are of the least round
abbrev pub FindsOn : OpenBranch → (Step → Type 0) → Option Batch → Type 0
FindsOn it P found = Improves it.search.now it.pick P None found

-- its due step that is picked, or none where it has no new step
abbrev pub IsDueOnIt : OpenBranch → Option NewStep → Type 0
IsDueOnIt it found = IsDueIfAny it.search.now it.pick it.number found

-- ---- the branches so far

-- of the due steps on branches below the bound it is the one that is picked, with its round; and
-- the agenda is that of its branch
pub record IsPickedBelow (pick : Pick) (c : Course) (bound : ℕ) (it : Due) : Type 0 where
  pub below : branch_of it.found.step < bound
  pub due : IsDueStep c.problem c.slots it.found.step
  pub first : (other : Step) → branch_of other < bound → IsDueStep c.problem c.slots other →
      pick_cmp pick it.found.step other ≢ Greater
  pub round_is : IsRoundIn c it.found.step it.found.round
  pub agenda : IsAgendaAt pick c (branch_of it.found.step) it.agenda

-- or no branch below the bound is open
abbrev pub IsFirstBelow : Pick → Course → ℕ → Option Due → Type 0
IsFirstBelow pick c bound None =
    (number : ℕ) (branch : Branch) → number < bound → ¬ (IsOpen c.slots number branch)
IsFirstBelow pick c bound (Some it) = IsPickedBelow pick c bound it

-- the branch of the number is closed or has a new step, and of the due steps it is the one that is
-- picked
pub record PassesBranch (pick : Pick) (c : Course) (number : ℕ) (old new : Option Due) : Type 0 where
  pub has : (branch : Branch) → IsOpen c.slots number branch → HasNew c.problem number branch
  pub first : IsFirstBelow pick c number old → IsFirstBelow pick c (number + 1) new

-- the branch is saturated
pub record SaturatedAt (c : Course) (number : ℕ) : Type 0 where
  pub branch : Branch
  pub saturated : IsSaturated c.problem c.slots number branch

abbrev pub IsLooked : Pick → Course → ℕ → Bool → Option Due → Option Due → Type 0
IsLooked pick c number true old new = SaturatedAt c number
IsLooked pick c number false old new = PassesBranch pick c number old new

-- ---- branches that wait

-- each open branch below the bound but one has a new step; the agendas are that one's, and that of
-- the branch at the bound; and what is remembered of each branch is told there
pub record AreWaiting (pick : Pick) (c : Course) (waiting : Waiting) : Type 0 where
  pub waits : (number : ℕ) (branch : Branch) → number < waiting.below → number ≢ waiting.but →
      IsOpen c.slots number branch → HasNew c.problem number branch
  pub agenda : IsAgendaAt pick c waiting.but waiting.agenda
  pub next : IsAgendaAt pick c waiting.below waiting.next
  pub memory : AreRemembered c waiting.memory

-- up to the round nothing is new on both but, maybe, by rules and views
pub record AreQuietBeside (c : Course) (waiting : Waiting) (round : ℕ) : Type 0 where
  pub first : (b : Branch) → IsOpen c.slots waiting.but b →
      IsQuietBeside c.problem b waiting.but round
  pub other : (b : Branch) → IsOpen c.slots waiting.below b →
      IsQuietBeside c.problem b waiting.below round

-- a loose split on an open branch, of a round past this one
pub record SplitsLoosely (c : Course) (it : NewStep) (round : ℕ) : Type 0 where
  pub branch : Branch
  pub open_ : IsOpen c.slots (branch_of it.step) branch
  pub atom : TermAtom
  pub split : it.step ≡ steps.Split (branch_of it.step) atom
  pub loose : IsLooseAtom branch.known atom
  pub past : round < it.round

-- the step is such a split, or the round is 0
abbrev pub IsQuietRound : Course → NewStep → ℕ → Type 0
IsQuietRound c it round = (round ≡ 0) ⊎ SplitsLoosely c it round

-- the step is quiet on its branch
abbrev pub IsQuietAt : Problem → Option Branch → Step → Type 0
IsQuietAt p None step = ⊥
IsQuietAt p (Some b) step = IsQuietStep p b step

-- all is left of the agenda after a quiet step of no lesser round, but that the branch is silent
-- only where the step adds to side One alone
pub record IsCarriedOn (c : Course) (it : Due) (left : Agenda) : Type 0 where
  pub quiet : IsQuietAt c.problem (open_at c.slots (branch_of it.found.step)) it.found.step
  pub low : it.agenda.round ≤ it.found.round
  pub round_is : left.round ≡ it.agenda.round
  pub older_is : left.older ≡ it.agenda.older
  pub steps_are : left.steps.items ≡ it.agenda.steps.items
  pub silent : IsTrue left.silent → IsTrue it.agenda.silent ×
      AddsToOneAt (open_at c.slots (branch_of it.found.step)) it.found.step

-- nothing is left of it, or it is kept so
abbrev pub IsAgendaAfter : Course → Due → Agenda → Type 0
IsAgendaAfter c it left = IsNone left ⊎ IsCarriedOn c it left

-- its new steps aren't the next one: a step of a branch before it was found already
abbrev pub ComesLater : Pick → Option Due → Type 0
ComesLater First None = ⊥
ComesLater First (Some it) = Unit {0}
ComesLater Last None = ⊥
ComesLater Last (Some it) = ⊥

-- it waits
abbrev pub Waits : Waiting → ℕ → Type 0
Waits waiting number = (number < waiting.below) × (number ≢ waiting.but)

-- ---- a step ahead

-- a due step was taken
pub record HasMoved (pick : Pick) (old new : Course) (waiting : Waiting) : Type 0 where
  pub problem : new.problem ≡ old.problem
  pub searches : Searches pick new.problem new.steps new.slots
  pub waiting_ : AreWaiting pick new waiting
  pub count : length new.steps ≡ length old.steps + 1

-- ---- the end

-- the course's steps and its branch of the number
abbrev pub AreLeftAt : Course → ℕ → List Step × Branch → Type 0
AreLeftAt c number (taken, branch) = (taken ≡ c.steps) × (open_at c.slots number ≡ Some branch)

-- so they are the leaf's, and its problem is the course's
pub record LeavesAt (c : Course) (number : ℕ) (leaf : Leaf) : Type 0 where
  pub problem_is : leaf.problem ≡ c.problem
  pub steps_are : leaf.steps ≡ c.steps
  pub branch_is : open_at c.slots number ≡ Some leaf.branch

abbrev pub IsLeafOf : Course → ℕ → Settled → Type 0
IsLeafOf c number (settled.Proved proof) = ⊥
IsLeafOf c number (settled.Saturated leaf) = LeavesAt c number leaf
IsLeafOf c number (settled.Spent taken) = ⊥
