use Rattle.std.proofs.Common.{length}
use Rattle.ba_decide.proofs.answer.+last_in.Given as goal

abbrev pub decreases-last_in : goal.decreases-last_in
decreases-last_in l = length l.grounds.now
