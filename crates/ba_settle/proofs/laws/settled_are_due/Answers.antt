use Rattle.ba_settle.proofs.SettledLemmas.{settled_due}
use Rattle.ba_settle.proofs.laws.settled_are_due.Goals as goal

pub returns : goal.returns
returns c = settled_due
