use Rattle.std.proofs.Common.{arith}
use Rattle.std.proofs.lemmas.Grind.{common_steps}
use Rattle.ba_proof.proofs.SpellLemmas.{all_more}
use Rattle.ba_store.specs.ReadBack.{AtomHasBits}
use Rattle.ba_store.proofs.write.atoms_json.Goals as goal

pub loop-atom-preserved : goal.loop-atom-preserved
loop-atom-preserved c = (
  grind (arith, common_steps),
  all_more c.args.atoms.now c.loop-atom.atom-index c.atom-item.result c.loop-atom-test.true c.atom-item.is AtomHasBits c.loop-atom.invariant.1
      c.in_ok-atom_json.ensures.bits,
)
