use Rattle.std.proofs.Common.{length}
use Rattle.ba_match.proofs.tested.+parts_become.Given as goal

abbrev pub decreases-parts_become : goal.decreases-parts_become
decreases-parts_become l = length l.patterns.now
