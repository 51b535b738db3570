use Rattle.ba_instant.proofs.AgendaLemmas.{trimmed_next, without_last}
use Rattle.ba_instant.proofs.agenda.Agenda.drop_old.Goals as goal

pub loop-alloc-preserved : goal.loop-alloc-preserved
loop-alloc-preserved c =
    trimmed_next c.args.search.now c.args.self.now c.loop-alloc.self c.drop_last.new.self c.loop-alloc.invariant
    (without_last c.args.search.now c.loop-alloc.self c.drop_last.new.self (c.ends_old.ensures.old c.loop-alloc-test.true) c.drop_last.ensures)
