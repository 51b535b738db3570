use Rattle.ba_refute.proofs.OnceLemmas.{set_next}
use Rattle.ba_refute.proofs.once.set_of.Goals as goal

pub loop-row-preserved : goal.loop-row-preserved
loop-row-preserved c =
    set_next c.args.rows.now c.loop-row.row-index c.row-item.result c.in_ok-copy.copy c.loop-row.set c.insert.new.self c.loop-row-test.true c.row-item.is c.in_ok-copy.ensures
    c.loop-row.invariant c.in_ok-insert.ensures.updates.0
