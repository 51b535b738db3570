use Rattle.std.proofs.lemmas.Result.{err_from_is_err_and}
use Rattle.serde_json.specs.View.{view}
use Rattle.ba_proof.proofs.EachLemmas.{each_fails, each_goes_on}
use Rattle.ba_printed.specs.Shapes.{long_of}
use Rattle.ba_printed.proofs.shapes.each_long.Goals as goal

pub returns-in_err-n : goal.returns-in_err-n
returns-in_err-n c =
    let p = err_from_is_err_and c.from_residual.result c.from_residual.ensures.1 in
    rw (p.1, p.2) (each_fails view long_of c.args.items.now c.loop-item.item-index c.loop-item.found c.item-item.result c.in_err-n.field-0.0 c.loop-item.invariant c.loop-item-test.true c.item-item.is c.in_err-n.ensures)

pub loop-item-preserved : goal.loop-item-preserved
loop-item-preserved c =
    each_goes_on view long_of c.args.items.now c.loop-item.item-index c.loop-item.found _ c.item-item.result c.in_ok-n.n c.loop-item.invariant c.loop-item-test.true c.item-item.is c.in_ok-n.ensures c.in_ok-push.ensures.ok
