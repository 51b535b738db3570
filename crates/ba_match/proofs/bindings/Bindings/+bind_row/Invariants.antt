use Rattle.std.proofs.Common.{length}
use Rattle.ba_match.proofs.bindings.Bindings.+bind_row.Given as goal

abbrev pub decreases-bind_row : goal.decreases-bind_row
decreases-bind_row l = length l.patterns.now
