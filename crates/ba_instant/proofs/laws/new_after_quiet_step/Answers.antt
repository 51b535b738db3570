use Rattle.ba_instant.proofs.KeepLemmas.{new_after_quiet_step}
use Rattle.ba_instant.proofs.laws.new_after_quiet_step.Goals as goal

pub returns : goal.returns
returns c = new_after_quiet_step
