use Rattle.std.proofs.Common.{◌+◌, ◌-◌, ◌^◌, ◌∙◌, ap, length, min}
use Rattle.ba_clash.proofs.CountLemmas.{rows_more}
use Rattle.ba_clash.proofs.count.old_rows.Goals as goal

pub loop-number-preserved : goal.loop-number-preserved
loop-number-preserved c =
    rows_more (2 ^ 64 - 1) c.args.trace.now c.loop-number.number c.entry.result.now
    c.loop-number.sum c.saturating_add-sum.result c.entry.ensures c.loop-number.invariant
    (c.saturating_add-sum.ensures
    ∙ ap (λ n. min (c.loop-number.sum + n) (2 ^ 64 - 1))
    (c.len.ensures ∙ ap length c.deref.ensures))
