use Rattle.std.proofs.Common.{length}
use Rattle.ba_model.proofs.check_schema.+kinds_match.Given as goal

abbrev pub decreases-kinds_match : goal.decreases-kinds_match
decreases-kinds_match l = length l.numbers.now
