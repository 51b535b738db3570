use Rattle.ba_instant.proofs.FilledRuns.{runs_are_filled}
use Rattle.ba_instant.proofs.laws.runs_are_filled.Goals as goal

pub returns : goal.returns
returns c = runs_are_filled
