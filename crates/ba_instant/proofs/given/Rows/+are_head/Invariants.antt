use Rattle.std.proofs.Common.{length}
use Rattle.ba_instant.proofs.given.Rows.+are_head.Given as goal

abbrev pub decreases-are_head : goal.decreases-are_head
decreases-are_head l = length l.head.now
