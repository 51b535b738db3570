use Rattle.std.proofs.Common.{length}
use Rattle.ba_instant.proofs.given.+are_filled.Given as goal

abbrev pub decreases-are_filled : goal.decreases-are_filled
decreases-are_filled l = length l.columns.now
