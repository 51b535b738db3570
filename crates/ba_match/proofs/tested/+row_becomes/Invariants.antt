use Rattle.std.proofs.Common.{length}
use Rattle.ba_match.proofs.tested.+row_becomes.Given as goal

abbrev pub decreases-row_becomes : goal.decreases-row_becomes
decreases-row_becomes l = length l.patterns.now
