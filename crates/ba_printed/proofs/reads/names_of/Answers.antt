use Rattle.std.proofs.lemmas.Result.{err_from_is_err_and}
use Rattle.serde_json.specs.View.{view}
use Rattle.ba_proof.proofs.EachLemmas.{each_fails, each_goes_on}
use Rattle.ba_printed.specs.Reading.{by_at}
use Rattle.ba_printed.proofs.reads.names_of.Goals as goal

pub returns-in_err-by : goal.returns-in_err-by
returns-in_err-by c =
    let p = err_from_is_err_and c.from_residual.result c.from_residual.ensures.1 in
    rw (p.1, p.2) (each_fails view by_at c.args.names.now c.loop-name.name-index c.loop-name.bys c.name-item.result c.in_err-by.field-0.0 c.loop-name.invariant c.loop-name-test.true c.name-item.is c.in_err-by.ensures)

pub loop-name-preserved : goal.loop-name-preserved
loop-name-preserved c =
    each_goes_on view by_at c.args.names.now c.loop-name.name-index c.loop-name.bys _ c.name-item.result c.in_ok-by.by c.loop-name.invariant c.loop-name-test.true c.name-item.is c.in_ok-by.ensures c.in_ok-push.ensures.ok
