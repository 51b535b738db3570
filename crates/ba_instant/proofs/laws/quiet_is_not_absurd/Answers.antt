use Rattle.ba_instant.proofs.QuietLemmas.{quiet_is_not_absurd}
use Rattle.ba_instant.proofs.laws.quiet_is_not_absurd.Goals as goal

pub returns : goal.returns
returns c = quiet_is_not_absurd
