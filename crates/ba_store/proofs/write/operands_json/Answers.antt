use Rattle.std.proofs.Common.{arith}
use Rattle.std.proofs.lemmas.Grind.{common_steps}
use Rattle.ba_proof.proofs.SpellLemmas.{all_more}
use Rattle.ba_store.specs.ReadBack.{OperandHasBits}
use Rattle.ba_store.proofs.write.operands_json.Goals as goal

pub loop-operand-preserved : goal.loop-operand-preserved
loop-operand-preserved c = (
  grind (arith, common_steps),
  all_more c.args.operands.now c.loop-operand.operand-index c.operand-item.result c.loop-operand-test.true c.operand-item.is OperandHasBits c.loop-operand.invariant.1
      c.in_ok-operand_json.ensures.bits,
)
