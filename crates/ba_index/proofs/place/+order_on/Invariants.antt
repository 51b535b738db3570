use Rattle.std.proofs.Common.{length}
use Rattle.ba_index.proofs.place.+order_on.Given as goal

abbrev pub decreases-order_on : goal.decreases-order_on
decreases-order_on l = length l.columns.now
