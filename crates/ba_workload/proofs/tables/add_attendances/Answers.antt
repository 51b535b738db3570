use Rattle.std.proofs.Common.{◌∙◌, ◌++◌, ap, sym}
use Rattle.std.proofs.lemmas.List.{append-nil}
use Rattle.ba_workload.proofs.ListLemmas.{each-none, each_put_behind}
use Rattle.ba_workload.specs.Tables.{attendance_row}
use Rattle.ba_workload.proofs.tables.add_attendances.Goals as goal

pub loop-attendance-init : goal.loop-attendance-init
loop-attendance-init c = sym (append-nil c.args.rows.now) ∙ ap (λ xs. c.args.rows.now ++ xs) (sym (each-none (attendance_row c.args.user) 0))

pub loop-attendance-preserved : goal.loop-attendance-preserved
loop-attendance-preserved c =
    each_put_behind (attendance_row c.args.user) c.loop-attendance.attendance c.args.rows.now c.loop-attendance.rows c.push.new.self c.in_ok-row.row c.in_ok-push.ensures.ok c.loop-attendance.invariant c.in_ok-row.ensures
