use Rattle.ba_general.proofs.AcceptedLemmas.{each_dropped}
use Rattle.ba_general.proofs.laws.run_drops_each.Goals as goal

pub returns : goal.returns
returns c = each_dropped
