-- What is done, with what was read for it.
use Rattle.std.specs.Prelude.{◌≤◌, length, ⊤}
use Rattle.ba_kernel.specs.Courses.{ProblemFits}
use Rattle.ba_model.specs.Limits.{most_steps}
use Rattle.ba_proof.specs.declared.proof.Proof.{Proof}
use Rattle.ba_input.specs.Inputs.{IsInput}
use Rattle.ba_input.specs.declared.task.Task.{Task}
use Rattle.ba_input.specs.declared.task.Task.TheVariants.{Run, Print, Check, Audit}

-- The proof can be checked: its problem fits its policy, and its steps are within their limit.
pub record IsCheckable (proof : Proof) : Type 0 where
  pub problem : ProblemFits proof.problem
  pub few : length proof.steps ≤ most_steps

-- what was read for a command belongs together
abbrev pub IsTask : Task → Type 0
IsTask (Run input told) = IsInput input
IsTask (Print text) = ⊤
IsTask (Check proof) = IsCheckable proof
IsTask (Audit input bytes) = IsInput input
