use Rattle.std.proofs.Common.{length}
use Rattle.ba_clash.proofs.known.+column_in.Given as goal

abbrev pub decreases-column_in : goal.decreases-column_in
decreases-column_in l = length l.head.now
