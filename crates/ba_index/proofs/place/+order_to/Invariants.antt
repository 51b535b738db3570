use Rattle.std.proofs.Common.{length}
use Rattle.ba_index.proofs.place.+order_to.Given as goal

abbrev pub decreases-order_to : goal.decreases-order_to
decreases-order_to l = length l.columns.now
