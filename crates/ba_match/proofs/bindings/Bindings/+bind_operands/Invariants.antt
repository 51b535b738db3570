use Rattle.std.proofs.Common.{length}
use Rattle.ba_match.proofs.bindings.Bindings.+bind_operands.Given as goal

abbrev pub decreases-bind_operands : goal.decreases-bind_operands
decreases-bind_operands l = length l.patterns.now
