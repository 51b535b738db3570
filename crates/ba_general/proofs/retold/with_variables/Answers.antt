use Rattle.ba_kernel.proofs.BuildLemmas.{zip_more}
use Rattle.ba_general.specs.Retold.{IsStepWith}
use Rattle.ba_general.proofs.retold.with_variables.Goals as goal

pub loop-step-preserved : goal.loop-step-preserved
loop-step-preserved c =
    zip_more (IsStepWith c.args.values.now) c.as_slice-step-items.result.now c.loop-step.step-index c.step-item.result c.loop-step.all c.push.new.self
    c.in_ok-step_with.field-0 c.loop-step-test.true c.step-item.is c.loop-step.invariant c.in_ok-step_with.ensures c.in_ok-push.ensures.ok
