use Rattle.std.proofs.Common.{All, arith, subst}
use Rattle.std.proofs.lemmas.Grind.{common_steps}
use Rattle.ba_proof.proofs.SpellLemmas.{all_more}
use Rattle.ba_proof.specs.ReadBack.{ValueSpells}
use Rattle.ba_evidence.proofs.rows.rows_json.Goals as goal

pub loop-row-preserved : goal.loop-row-preserved
loop-row-preserved c = (
  grind (arith, common_steps),
  all_more c.args.rows.now c.loop-row.row-index c.row-item.result c.loop-row-test.true c.row-item.is (All ValueSpells) c.loop-row.invariant.1
      (subst (All ValueSpells) c.as_slice.ensures c.in_ok-row_json.ensures.bits),
)
