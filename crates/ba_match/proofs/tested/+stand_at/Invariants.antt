use Rattle.std.proofs.Common.{length}
use Rattle.ba_match.proofs.tested.+stand_at.Given as goal

abbrev pub decreases-stand_at : goal.decreases-stand_at
decreases-stand_at l = length l.entries.now
