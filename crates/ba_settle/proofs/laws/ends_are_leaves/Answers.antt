use Rattle.ba_settle.proofs.SearchLemmas.{ends_are_leaves as are_leaves}
use Rattle.ba_settle.proofs.laws.ends_are_leaves.Goals as goal

pub returns : goal.returns
returns c = are_leaves
