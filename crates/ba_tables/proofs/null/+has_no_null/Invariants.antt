use Rattle.std.proofs.Common.{length}
use Rattle.ba_tables.proofs.null.+has_no_null.Given as goal

abbrev pub decreases-has_no_null : goal.decreases-has_no_null
decreases-has_no_null l = length l.columns.now
