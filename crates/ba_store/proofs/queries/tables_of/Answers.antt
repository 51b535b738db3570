use Rattle.std.proofs.lemmas.Result.{err_from_is_err_and}
use Rattle.serde_json.specs.View.{view}
use Rattle.ba_proof.proofs.EachLemmas.{each_fails, each_goes_on}
use Rattle.ba_store.specs.Reading.{table_at}
use Rattle.ba_store.proofs.queries.tables_of.Goals as goal

pub returns-in_err-table : goal.returns-in_err-table
returns-in_err-table c =
    let p = err_from_is_err_and c.from_residual.result c.from_residual.ensures.1 in
    rw (p.1, p.2) (each_fails view (table_at c.args.field c.args.schema.now) c.args.items.now c.loop-item.item-index c.loop-item.found c.item-item.result c.in_err-table.field-0.0 c.loop-item.invariant c.loop-item-test.true c.item-item.is c.in_err-table.ensures)

pub loop-item-preserved : goal.loop-item-preserved
loop-item-preserved c =
    each_goes_on view (table_at c.args.field c.args.schema.now) c.args.items.now c.loop-item.item-index c.loop-item.found _ c.item-item.result c.in_ok-table.table c.loop-item.invariant c.loop-item-test.true c.item-item.is c.in_ok-table.ensures c.in_ok-push.ensures.ok
