use Rattle.std.proofs.Common.{length}
use Rattle.ba_instant.proofs.given.+are_rows_for.Given as goal

abbrev pub decreases-are_rows_for : goal.decreases-are_rows_for
decreases-are_rows_for l = length l.from.now
