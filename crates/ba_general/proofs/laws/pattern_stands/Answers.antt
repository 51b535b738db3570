use Rattle.ba_general.proofs.StandsLemmas.{stands_all}
use Rattle.ba_general.proofs.laws.pattern_stands.Goals as goal

pub returns : goal.returns
returns c = stands_all
