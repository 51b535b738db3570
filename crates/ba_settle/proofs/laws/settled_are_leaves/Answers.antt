use Rattle.ba_settle.proofs.SettledLemmas.{settled_leaves}
use Rattle.ba_settle.proofs.laws.settled_are_leaves.Goals as goal

pub returns : goal.returns
returns c = settled_leaves
