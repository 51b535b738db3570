use Rattle.std.proofs.lemmas.Result.{err_from_is_err_and}
use Rattle.ba_event.proofs.ItemLemmas.{each_fails, each_goes_on}
use Rattle.ba_event.specs.Events.{value_at}
use Rattle.ba_event.proofs.told.each_value.Goals as goal

pub returns-in_err-value : goal.returns-in_err-value
returns-in_err-value c =
    let p = err_from_is_err_and c.from_residual.result c.from_residual.ensures.1 in
    rw (p.1, p.2) (each_fails value_at c.args.items.now c.loop-item.item-index c.loop-item.row c.item-item.result c.in_err-value.field-0.0 c.loop-item.invariant c.loop-item-test.true c.item-item.is c.in_err-value.ensures)

pub loop-item-preserved : goal.loop-item-preserved
loop-item-preserved c =
    each_goes_on value_at c.args.items.now c.loop-item.item-index c.loop-item.row _ c.item-item.result c.in_ok-value.value c.loop-item.invariant c.loop-item-test.true c.item-item.is c.in_ok-value.ensures c.in_ok-push.ensures.ok
