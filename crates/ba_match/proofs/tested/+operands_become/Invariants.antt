use Rattle.std.proofs.Common.{length}
use Rattle.ba_match.proofs.tested.+operands_become.Given as goal

abbrev pub decreases-operands_become : goal.decreases-operands_become
decreases-operands_become l = length l.patterns.now
