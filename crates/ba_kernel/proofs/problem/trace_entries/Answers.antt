use Rattle.ba_kernel.proofs.AskedLemmas.{trace_more}
use Rattle.ba_kernel.proofs.problem.trace_entries.Goals as goal

pub loop-i-preserved : goal.loop-i-preserved
loop-i-preserved c =
    trace_more c.args.trace.now c.loop-i.i c.entry.result.now c.loop-i.entries.items c.add_entries.new.entries.items c.entry.ensures c.loop-i.invariant
    c.in_ok-add_entries.ensures
