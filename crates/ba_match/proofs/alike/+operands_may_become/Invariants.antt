use Rattle.std.proofs.Common.{length}
use Rattle.ba_match.proofs.alike.+operands_may_become.Given as goal

abbrev pub decreases-operands_may_become : goal.decreases-operands_may_become
decreases-operands_may_become l = length l.patterns.now
