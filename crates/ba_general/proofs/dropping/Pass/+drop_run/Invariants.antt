use Rattle.std.proofs.Common.{◌-◌}
use Rattle.ba_general.proofs.dropping.Pass.+drop_run.Given as goal

abbrev pub decreases-drop_run : goal.decreases-drop_run
decreases-drop_run l = l.end - l.first
