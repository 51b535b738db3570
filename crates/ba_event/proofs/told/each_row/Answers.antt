use Rattle.std.proofs.lemmas.Result.{err_from_is_err_and}
use Rattle.ba_event.proofs.ItemLemmas.{each_fails, each_goes_on}
use Rattle.ba_event.specs.Events.{row_at}
use Rattle.ba_event.proofs.told.each_row.Goals as goal

pub returns-in_err-row : goal.returns-in_err-row
returns-in_err-row c =
    let p = err_from_is_err_and c.from_residual.result c.from_residual.ensures.1 in
    rw (p.1, p.2) (each_fails row_at c.args.items.now c.loop-item.item-index c.loop-item.rows c.item-item.result c.in_err-row.field-0.0 c.loop-item.invariant c.loop-item-test.true c.item-item.is c.in_err-row.ensures)

pub loop-item-preserved : goal.loop-item-preserved
loop-item-preserved c =
    each_goes_on row_at c.args.items.now c.loop-item.item-index c.loop-item.rows _ c.item-item.result c.in_ok-row.row c.loop-item.invariant c.loop-item-test.true c.item-item.is c.in_ok-row.ensures c.in_ok-push.ensures.ok
