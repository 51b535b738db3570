use Rattle.std.proofs.Common.{◌≡◌, ◌-◌}
use Rattle.ba_workload.specs.Lists.{each_of}
use Rattle.ba_workload.specs.Tables.{event_row}
use Rattle.ba_workload.proofs.tables.event_rows.Given as goal

abbrev pub invariant-loop-event : goal.invariant-loop-event
invariant-loop-event l = l.rows ≡ each_of event_row 1 (l.event - 1)
