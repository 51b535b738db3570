use Rattle.std.proofs.Common.{length}
use Rattle.ba_model.proofs.check_query.+heads_match.Given as goal

abbrev pub decreases-heads_match : goal.decreases-heads_match
decreases-heads_match l = length l.head.now
