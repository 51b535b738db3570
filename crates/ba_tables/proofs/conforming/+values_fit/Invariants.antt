use Rattle.std.proofs.Common.{length}
use Rattle.ba_tables.proofs.conforming.+values_fit.Given as goal

abbrev pub decreases-values_fit : goal.decreases-values_fit
decreases-values_fit l = length l.columns.now
