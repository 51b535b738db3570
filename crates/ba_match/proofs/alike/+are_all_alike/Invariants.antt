use Rattle.std.proofs.Common.{length}
use Rattle.ba_match.proofs.alike.+are_all_alike.Given as goal

abbrev pub decreases-are_all_alike : goal.decreases-are_all_alike
decreases-are_all_alike l = length l.patterns.now
