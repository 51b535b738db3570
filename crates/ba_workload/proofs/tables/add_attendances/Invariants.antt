use Rattle.std.proofs.Common.{◌≡◌, ◌++◌}
use Rattle.ba_workload.specs.Lists.{each_of}
use Rattle.ba_workload.specs.Tables.{attendance_row}
use Rattle.ba_workload.proofs.tables.add_attendances.Given as goal

abbrev pub invariant-loop-attendance : goal.invariant-loop-attendance
invariant-loop-attendance l = l.rows ≡ l.fn.rows ++ each_of (attendance_row l.user) 0 l.attendance
