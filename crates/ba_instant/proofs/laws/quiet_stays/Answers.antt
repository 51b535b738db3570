use Rattle.ba_instant.proofs.QuietLemmas.{quiet_stays}
use Rattle.ba_instant.proofs.laws.quiet_stays.Goals as goal

pub returns : goal.returns
returns c = quiet_stays
