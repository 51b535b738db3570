use Rattle.std.proofs.Common.{◌≡◌, ◌-◌}
use Rattle.ba_workload.specs.Lists.{each_of}
use Rattle.ba_workload.specs.Tables.{user_row}
use Rattle.ba_workload.proofs.tables.user_rows.Given as goal

abbrev pub invariant-loop-user : goal.invariant-loop-user
invariant-loop-user l = l.rows ≡ each_of user_row 1 (l.user - 1)
