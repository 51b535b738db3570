use Rattle.std.proofs.Common.{◌∙◌, sym}
use Rattle.ba_workload.proofs.ListLemmas.{each-none, each_put}
use Rattle.ba_workload.specs.Tables.{user_row}
use Rattle.ba_workload.proofs.tables.user_rows.Goals as goal

pub loop-user-init : goal.loop-user-init
loop-user-init c = c.new-rows.ensures ∙ sym (each-none user_row 1)

pub loop-user-preserved : goal.loop-user-preserved
loop-user-preserved c =
    each_put user_row c.loop-user.user c.loop-user.rows c.push.new.self c.in_ok-row.row c.loop-user.auto.user c.in_ok-push.ensures.ok c.loop-user.invariant c.in_ok-row.ensures
