use Rattle.std.proofs.Common.{length}
use Rattle.ba_instant.proofs.moves.+moved.Given as goal

abbrev pub decreases-moved : goal.decreases-moved
decreases-moved l = length l.moves.now
