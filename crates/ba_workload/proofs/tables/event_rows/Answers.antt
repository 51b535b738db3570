use Rattle.std.proofs.Common.{◌∙◌, sym}
use Rattle.ba_workload.proofs.ListLemmas.{each-none, each_put}
use Rattle.ba_workload.specs.Tables.{event_row}
use Rattle.ba_workload.proofs.tables.event_rows.Goals as goal

pub loop-event-init : goal.loop-event-init
loop-event-init c = c.new-rows.ensures ∙ sym (each-none event_row 1)

pub loop-event-preserved : goal.loop-event-preserved
loop-event-preserved c =
    each_put event_row c.loop-event.event c.loop-event.rows c.push.new.self c.in_ok-row.row c.loop-event.auto.event c.in_ok-push.ensures.ok c.loop-event.invariant c.in_ok-row.ensures
