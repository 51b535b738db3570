use Rattle.std.proofs.Common.{arith, rules}
use Rattle.std.proofs.lemmas.Grind.{common_steps}
use Rattle.ba_proof.proofs.SpellLemmas.{all_more, all_of}
use Rattle.ba_store.specs.ReadBack.{EntryHasBits}
use Rattle.ba_store.proofs.write.entries_json.Goals as goal

pub loop-entry-preserved : goal.loop-entry-preserved
loop-entry-preserved c = (
  grind (arith, common_steps),
  all_more c.args.entries.now c.loop-entry.entry-index c.entry-item.result c.loop-entry-test.true c.entry-item.is EntryHasBits c.loop-entry.invariant.1
      c.in_ok-entry_json.ensures.bits,
)

pub returns-clause-bits : goal.returns-clause-bits
returns-clause-bits c = all_of c.args.entries.now c.loop-entry.entry-index EntryHasBits (search rules) c.loop-entry.invariant.1
