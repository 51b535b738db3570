use Rattle.std.proofs.Common.{length}
use Rattle.ba_instant.proofs.told.+are_before.Given as goal

abbrev pub decreases-are_before : goal.decreases-are_before
decreases-are_before l = length l.one.now
