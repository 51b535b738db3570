use Rattle.std.proofs.Common.{length}
use Rattle.ba_instant.proofs.fresh.+are_one.Given as goal

abbrev pub decreases-are_one : goal.decreases-are_one
decreases-are_one l = length l.left.now
