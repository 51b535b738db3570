use Rattle.std.proofs.lemmas.Result.{err_from_is_err_and}
use Rattle.ba_sql_query.specs.Resolve.{select_of}
use Rattle.ba_sql_query.proofs.EachLemmas.{each_fails, each_goes_on}
use Rattle.ba_sql_query.proofs.resolve.selects_of.Goals as goal

pub returns-in_err-next : goal.returns-in_err-next
returns-in_err-next c =
    let p = err_from_is_err_and c.from_residual.result c.from_residual.ensures.1 in
    rw (p.1, p.2) (each_fails (select_of c.args.schema.now c.args.params.now) c.args.selects.now c.loop-select.select-index c.loop-select.found c.select-item.result c.in_err-next.field-0.0 c.loop-select.invariant c.loop-select-test.true c.select-item.is c.in_err-next.ensures)

pub loop-select-preserved : goal.loop-select-preserved
loop-select-preserved c =
    each_goes_on (select_of c.args.schema.now c.args.params.now) c.args.selects.now c.loop-select.select-index c.loop-select.found _ c.select-item.result c.in_ok-next.next c.loop-select.invariant c.loop-select-test.true c.select-item.is c.in_ok-next.ensures c.in_ok-push.ensures.ok
