use Rattle.std.proofs.Common.{length}
use Rattle.ba_match.proofs.tested.+atoms_become.Given as goal

abbrev pub decreases-atoms_become : goal.decreases-atoms_become
decreases-atoms_become l = length l.patterns.now
