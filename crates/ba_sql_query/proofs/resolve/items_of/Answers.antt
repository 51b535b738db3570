use Rattle.std.proofs.lemmas.Result.{err_from_is_err_and}
use Rattle.ba_sql_query.specs.Resolve.{item_of}
use Rattle.ba_sql_query.proofs.EachLemmas.{flat_fails, flat_goes_on}
use Rattle.ba_sql_query.proofs.resolve.items_of.Goals as goal

pub returns-in_err-operands : goal.returns-in_err-operands
returns-in_err-operands c =
    let p = err_from_is_err_and c.from_residual.result c.from_residual.ensures.1 in
    rw (p.1, p.2) (flat_fails (item_of c.args.scope.now.schema.now c.args.params.now c.args.scope.now.sources c.args.scope.now.from) c.args.items.now c.loop-item.item-index c.loop-item.found.items c.item-item.result c.in_err-operands.field-0.0 c.loop-item.invariant c.loop-item-test.true c.item-item.is c.in_err-operands.ensures)

pub loop-item-preserved : goal.loop-item-preserved
loop-item-preserved c =
    flat_goes_on (item_of c.args.scope.now.schema.now c.args.params.now c.args.scope.now.sources c.args.scope.now.from) c.args.items.now c.loop-item.item-index c.loop-item.found.items _ c.item-item.result _ c.loop-item.invariant c.loop-item-test.true c.item-item.is c.in_ok-operands.ensures c.in_ok-append.ensures.items
