use Rattle.std.proofs.Common.{ap, arith, length}
use Rattle.ba_match.proofs.NumberLemmas.{one_entry_more}
use Rattle.ba_match.proofs.instances.rows_before.Goals as goal

pub loop-t-preserved : goal.loop-t-preserved
loop-t-preserved c =
    let more = one_entry_more c.args.trace.now c.loop-t.t c.entry.result.now c.entry.ensures in
    omega (arith, more, c.loop-t.invariant, c.in_ok-sum.ensures, c.len.ensures, ap length c.deref.ensures)
