use Rattle.std.proofs.Common.{◌≡◌, ◌-◌}
use Rattle.ba_workload.specs.Lists.{all_of}
use Rattle.ba_workload.specs.Tables.{attendances_of}
use Rattle.ba_workload.proofs.tables.attendance_rows.Given as goal

abbrev pub invariant-loop-user : goal.invariant-loop-user
invariant-loop-user l = l.rows ≡ all_of attendances_of 1 (l.user - 1)
