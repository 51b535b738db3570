use Rattle.std.proofs.lemmas.Result.{err_from_is_err_and}
use Rattle.serde_json.specs.View.{view}
use Rattle.ba_proof.specs.Steps.{step_at}
use Rattle.ba_proof.proofs.EachLemmas.{each_fails, each_goes_on}
use Rattle.ba_proof.proofs.steps.steps_of.Goals as goal

pub returns-in_err-step : goal.returns-in_err-step
returns-in_err-step c =
    let p = err_from_is_err_and c.from_residual.result c.from_residual.ensures.1 in
    rw (p.1, p.2) (each_fails view (step_at c.args.params.now c.args.vars c.args.version) c.args.items.now c.loop-item.item-index c.loop-item.found c.item-item.result c.in_err-step.field-0.0 c.loop-item.invariant c.loop-item-test.true c.item-item.is c.in_err-step.ensures)

pub loop-item-preserved : goal.loop-item-preserved
loop-item-preserved c =
    each_goes_on view (step_at c.args.params.now c.args.vars c.args.version) c.args.items.now c.loop-item.item-index c.loop-item.found _ c.item-item.result c.in_ok-step.step c.loop-item.invariant c.loop-item-test.true c.item-item.is c.in_ok-step.ensures c.in_ok-push.ensures.ok
