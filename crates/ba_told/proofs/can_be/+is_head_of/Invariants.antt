use Rattle.std.proofs.Common.{length}
use Rattle.ba_told.proofs.can_be.+is_head_of.Given as goal

abbrev pub decreases-is_head_of : goal.decreases-is_head_of
decreases-is_head_of l = length l.operands.now
