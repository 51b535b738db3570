use Rattle.ba_instant.proofs.KeepLemmas.{quiet_step_keeps}
use Rattle.ba_instant.proofs.laws.quiet_step_keeps.Goals as goal

pub returns : goal.returns
returns c = quiet_step_keeps
