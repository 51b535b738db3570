use Rattle.std.proofs.Common.{◌-◌}
use Rattle.ba_general.proofs.leaving.+leave.Given as goal

abbrev pub decreases-leave : goal.decreases-leave
decreases-leave l = l.end - l.first
