use Rattle.std.proofs.Common.{arith}
use Rattle.std.proofs.lemmas.Grind.{common_steps}
use Rattle.ba_proof.proofs.SpellLemmas.{all_more}
use Rattle.ba_proof.specs.ReadBack.{StepHasBits}
use Rattle.ba_proof.proofs.write.steps_json.Goals as goal

pub loop-step-preserved : goal.loop-step-preserved
loop-step-preserved c = (
  grind (arith, common_steps),
  all_more c.args.steps.now c.loop-step.step-index c.step-item.result c.loop-step-test.true c.step-item.is StepHasBits c.loop-step.invariant.1
      c.in_ok-step_json.ensures.bits,
)
