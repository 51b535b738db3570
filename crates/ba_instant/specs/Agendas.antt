-- What is left to do of a round on a branch.
use Rattle.std.specs.Prelude.{◌≡◌, ◌≢◌, ◌⊎◌, ℕ, ◌-◌, ◌<◌, ◌≤◌, List, [], Contains, IsPermutation, IsTrue, Option, Some, None, false, length, min, slice_get, slice_index_or, take}
use Rattle.std.specs.declared.cmp.Ordering.TheVariants.{Greater}
use Rattle.ba_facts.specs.declared.branch.Branch.{Branch}
use Rattle.ba_facts.specs.declared.term.Fact.{Fact}
use Rattle.ba_kernel.specs.Courses.{IsOpen, branch_of}
use Rattle.ba_kernel.specs.News.{IsNewOn}
use Rattle.ba_kernel.specs.Steps.{IsRound}
use Rattle.ba_kernel.specs.SearchStates.{Course}
use Rattle.ba_kernel.specs.declared.problem.Problem.{Problem}
use Rattle.ba_kernel.specs.declared.step.Step.{Step}
use Rattle.ba_instant.specs.Offers.{IsClosing, IsNewIn, IsRoundIn, IsTelling, Offers, is_single}
use Rattle.ba_settle.specs.Order.{pick_cmp}
use Rattle.ba_instant.specs.declared.agenda.Agenda.{Agenda}
use Rattle.ba_instant.specs.declared.batch.Batch.{Batch}
use Rattle.ba_instant.specs.declared.scan.NewStep.{NewStep}
use Rattle.ba_settle.specs.declared.order.Pick.{Pick}

-- a single step of the list isn't picked after this one, which is single too
pub record IsStoodFor (pick : Pick) (steps : List Step) (step : Step) : Type 0 where
  pub single : IsTrue (is_single step)
  pub other : Step
  pub there : Contains steps other
  pub other_single : IsTrue (is_single other)
  pub before : pick_cmp pick other step ≢ Greater

abbrev pub IsListed : Pick → List Step → Step → Type 0
IsListed pick steps step = Contains steps step ⊎ IsStoodFor pick steps step

-- those at the end are picked first
abbrev pub AreInTurn : Pick → List Step → Type 0
AreInTurn pick steps =
    (i j : ℕ) (d : Step) → i ≤ j → j < length steps →
    pick_cmp pick (slice_index_or steps j d) (slice_index_or steps i d) ≢ Greater

-- the same steps, those at the end to be picked first
pub record IsInTurn (pick : Pick) (old new : List Step) : Type 0 where
  pub moved : IsPermutation old new
  pub in_turn : AreInTurn pick new

-- each fact of a number below the end is there, and of a lesser round than the bound
pub record AreOlder (b : Branch) (end bound : ℕ) : Type 0 where
  pub within : end ≤ length b.facts
  pub older : (number : ℕ) (fact : Fact) → number < end → slice_get b.facts number ≡ Some fact →
      fact.round < bound

-- no step that closes the branch is new on it
abbrev pub IsSilent : Problem → ℕ → Branch → Type 0
IsSilent p number b = (step : Step) → IsClosing number step → ¬ (IsNewOn p b step)

-- the greatest round of a fact that a branch may have
abbrev pub MOST_ROUND : ℕ
MOST_ROUND = 4294967295

-- Of the new steps that tell the branch something none is of a lesser round than the agenda's, and
-- those of its round are listed, those at the end to be picked first.
pub record IsAgenda (pick : Pick) (p : Problem) (number : ℕ) (b : Branch) (agenda : Agenda)
    : Type 0 where
  pub on : (step : Step) → Contains agenda.steps.items step → branch_of step ≡ number
  pub in_turn : AreInTurn pick agenda.steps.items
  pub listed : (step : Step) (round : ℕ) → IsTelling number step → IsNewOn p b step →
      IsRound p b step round → round ≤ agenda.round →
      (round ≡ agenda.round) × IsListed pick agenda.steps.items step
  pub older : AreOlder b agenda.older (min agenda.round MOST_ROUND)
  pub silent : IsTrue agenda.silent → IsSilent p number b

-- so it is of the branch of the number, if that is open
pub record IsAgendaAt (pick : Pick) (c : Course) (number : ℕ) (agenda : Agenda) : Type 0 where
  pub of : (b : Branch) → IsOpen c.slots number b → IsAgenda pick c.problem number b agenda

-- ---- what is done with an agenda

-- the batch's steps, in turn
pub record IsAgendaOf (pick : Pick) (batch : Batch) (agenda : Agenda) : Type 0 where
  pub round : agenda.round ≡ batch.round
  pub has : (step : Step) → Offers batch step → Contains agenda.steps.items step
  pub from : (step : Step) → Contains agenda.steps.items step → Offers batch step
  pub in_turn : AreInTurn pick agenda.steps.items

-- the last step with the round, or none where the agenda has none
abbrev pub IsFirstOf : Agenda → Option NewStep → Type 0
IsFirstOf agenda None = agenda.steps.items ≡ []
IsFirstOf agenda (Some it) =
    (it.round ≡ agenda.round) ×
    (slice_get agenda.steps.items (length agenda.steps.items - 1) ≡ Some it.step)

-- the step is new, and of the round
abbrev pub IsNewHere : Course → ℕ → Step → Type 0
IsNewHere c round step = IsNewIn c step × IsRoundIn c step round

-- the last step isn't
pub record EndsOld (c : Course) (agenda : Agenda) : Type 0 where
  pub step : Step
  pub last : slice_get agenda.steps.items (length agenda.steps.items - 1) ≡ Some step
  pub old : ¬ (IsNewHere c agenda.round step)

-- it has no steps, and says nothing of the branch's facts, nor of what closes it
pub record IsBlank (agenda : Agenda) : Type 0 where
  pub steps : agenda.steps.items ≡ []
  pub older : agenda.older ≡ 0
  pub silent : agenda.silent ≡ false

-- nothing is left
abbrev pub IsNone : Agenda → Type 0
IsNone agenda = (agenda.round ≡ 0) × IsBlank agenda

-- what was found is past the round
abbrev pub IsPast : ℕ → Option Batch → Type 0
IsPast round None = Unit {0}
IsPast round (Some batch) = round < batch.round

-- nothing is left; and it is so up to the round, if what was found is past it
abbrev pub IsQuietAgenda : ℕ → Option Batch → Agenda → Type 0
IsQuietAgenda round found agenda =
    IsNone agenda ⊎ (IsPast round found × (agenda.round ≡ round) × IsBlank agenda)

-- the last step is gone, and with a single one all
abbrev pub IsWithoutLast : Agenda → Agenda → Type 0
IsWithoutLast old new =
    IsNone new ⊎ ((new.round ≡ old.round) ×
    (new.steps.items ≡ take (length old.steps.items - 1) old.steps.items) ×
    ((step : Step) → slice_get old.steps.items (length old.steps.items - 1) ≡ Some step →
    is_single step ≡ false) × (new.older ≡ old.older) × (new.silent ≡ old.silent))

-- what was an agenda of an open branch is one still
pub record IsTrimmed (c : Course) (old new : Agenda) : Type 0 where
  pub keeps : (pick : Pick) (number : ℕ) (b : Branch) → IsOpen c.slots number b →
      IsAgenda pick c.problem number b old → IsAgenda pick c.problem number b new
