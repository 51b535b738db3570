use Rattle.std.proofs.Common.{length}
use Rattle.ba_match.proofs.bindings.Bindings.+bind_atoms.Given as goal

abbrev pub decreases-bind_atoms : goal.decreases-bind_atoms
decreases-bind_atoms l = length l.patterns.now
