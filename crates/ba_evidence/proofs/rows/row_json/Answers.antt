use Rattle.std.proofs.Common.{arith}
use Rattle.std.proofs.lemmas.Grind.{common_steps}
use Rattle.ba_proof.proofs.SpellLemmas.{all_more}
use Rattle.ba_proof.specs.ReadBack.{ValueSpells}
use Rattle.ba_evidence.proofs.rows.row_json.Goals as goal

pub loop-value-preserved : goal.loop-value-preserved
loop-value-preserved c = (
  grind (arith, common_steps),
  all_more c.args.row.now c.loop-value.value-index c.value-item.result c.loop-value-test.true c.value-item.is ValueSpells c.loop-value.invariant.1 c.in_ok-value_json.ensures.bits,
)
