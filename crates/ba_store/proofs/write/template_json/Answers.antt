use Rattle.std.proofs.Common.{All, subst}
use Rattle.ba_store.specs.ReadBack.{AtomHasBits, EntryHasBits, QueryHasBits}
use Rattle.ba_store.proofs.write.template_json.Goals as goal

pub returns-clause-bits : goal.returns-clause-bits
returns-clause-bits c =
    record {
      goal = subst QueryHasBits c.deref.ensures c.in_ok-goal.ensures.bits;
      entries = subst (All EntryHasBits) c.as_slice-2.ensures c.in_ok-entries.ensures.bits;
      condition = subst (All AtomHasBits) c.as_slice.ensures c.in_ok-condition.ensures.bits;
      steps = c.in_ok-steps.ensures.bits;
    }
