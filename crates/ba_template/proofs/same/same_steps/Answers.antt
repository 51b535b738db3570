use Rattle.ba_model.proofs.TakeLemmas.{take_agrees}
use Rattle.ba_template.proofs.same.same_steps.Goals as goal

pub loop-i-preserved : goal.loop-i-preserved
loop-i-preserved c =
    take_agrees _ _ _ _ _ c.get.ensures c.get-in-loop-i.ensures (c.same_step.ensures.0 c.if-not-same_step.false) c.loop-i.invariant
