-- New steps: those that pass their tests and tell a branch what isn't there yet. And their rounds.
use Rattle.std.specs.Prelude.{◌≡◌, ℕ, Option, Some, None}
use Rattle.ba_facts.specs.declared.branch.Branch.{Branch}
use Rattle.ba_kernel.specs.Steps.{IsRound, Passes, Tells}
use Rattle.ba_kernel.specs.declared.problem.Problem.{Problem}
use Rattle.ba_kernel.specs.declared.step.Step.{Step}

pub record IsNewOn (p : Problem) (b : Branch) (step : Step) : Type 0 where
  pub passes : Passes p b step
  pub tells : Tells p b step

-- there is such a branch, and the step is new on it
abbrev pub IsNewAt : Problem → Option Branch → Step → Type 0
IsNewAt p None step = ⊥
IsNewAt p (Some b) step = IsNewOn p b step

-- the round of a step that is new
abbrev pub IsNewRoundOn : Problem → Branch → Step → Option ℕ → Type 0
IsNewRoundOn p b step None = ¬ (IsNewOn p b step)
IsNewRoundOn p b step (Some round) = IsNewOn p b step × IsRound p b step round

abbrev pub IsNewRound : Problem → Option Branch → Step → Option ℕ → Type 0
IsNewRound p None step round = round ≡ None
IsNewRound p (Some b) step round = IsNewRoundOn p b step round
