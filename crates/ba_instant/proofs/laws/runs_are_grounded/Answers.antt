use Rattle.ba_instant.proofs.GroundRuns.{runs_are_grounded}
use Rattle.ba_instant.proofs.laws.runs_are_grounded.Goals as goal

pub returns : goal.returns
returns c = runs_are_grounded
