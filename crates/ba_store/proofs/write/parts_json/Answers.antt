use Rattle.std.proofs.Common.{arith, rules}
use Rattle.std.proofs.lemmas.Grind.{common_steps}
use Rattle.ba_proof.proofs.SpellLemmas.{all_more, all_of}
use Rattle.ba_store.specs.ReadBack.{PartHasBits}
use Rattle.ba_store.proofs.write.parts_json.Goals as goal

pub loop-part-preserved : goal.loop-part-preserved
loop-part-preserved c = (
  grind (arith, common_steps),
  all_more c.args.parts.now c.loop-part.part-index c.part-item.result c.loop-part-test.true c.part-item.is PartHasBits c.loop-part.invariant.1
      c.in_ok-part_json.ensures.bits,
)

pub returns-clause-bits : goal.returns-clause-bits
returns-clause-bits c = all_of c.args.parts.now c.loop-part.part-index PartHasBits (search rules) c.loop-part.invariant.1
