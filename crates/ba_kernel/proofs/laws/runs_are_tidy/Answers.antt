use Rattle.ba_kernel.proofs.TidyRuns.{runs_are_tidy}
use Rattle.ba_kernel.proofs.laws.runs_are_tidy.Goals as goal

pub returns : goal.returns
returns c = runs_are_tidy
