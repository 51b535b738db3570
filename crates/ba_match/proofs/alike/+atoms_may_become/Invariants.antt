use Rattle.std.proofs.Common.{length}
use Rattle.ba_match.proofs.alike.+atoms_may_become.Given as goal

abbrev pub decreases-atoms_may_become : goal.decreases-atoms_may_become
decreases-atoms_may_become l = length l.patterns.now
