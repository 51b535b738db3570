use Rattle.ba_instant.proofs.LooseStepLemmas.{loose_stays}
use Rattle.ba_instant.proofs.laws.loose_stays.Goals as goal

pub returns : goal.returns
returns c = loose_stays
