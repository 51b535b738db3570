use Rattle.std.proofs.Common.{◌∙◌, refl, sym}
use Rattle.ba_workload.proofs.ListLemmas.{all-none, all_put}
use Rattle.ba_workload.specs.Tables.{attendances_of}
use Rattle.ba_workload.proofs.tables.attendance_rows.Goals as goal

pub loop-user-init : goal.loop-user-init
loop-user-init c = c.new-rows.ensures ∙ sym (all-none attendances_of 1)

pub loop-user-preserved : goal.loop-user-preserved
loop-user-preserved c =
    all_put attendances_of c.loop-user.user c.loop-user.rows c.add_attendances.new.rows (attendances_of c.loop-user.user) c.loop-user.auto.user c.in_ok-add_attendances.ensures c.loop-user.invariant refl
