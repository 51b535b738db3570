use Rattle.ba_instant.proofs.QuietLemmas.{quiet_at_first}
use Rattle.ba_instant.proofs.laws.quiet_at_first.Goals as goal

pub returns : goal.returns
returns c = quiet_at_first
