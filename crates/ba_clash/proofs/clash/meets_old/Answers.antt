use Rattle.ba_clash.specs.Steps.{told_of}
use Rattle.ba_clash.proofs.StepLemmas.{old_more, old_none}
use Rattle.ba_clash.proofs.clash.meets_old.Goals as goal

pub loop-at-preserved : goal.loop-at-preserved
loop-at-preserved c =
    old_more c.args.context.now c.args.number c.args.table.now (told_of c.args.one.now)
    c.args.old.now c.loop-at.at c.entry.result.now c.meets_entry.result c.loop-at.invariant
    c.entry.ensures
    c.meets_entry.ensures c.if-meets_entry.false

pub returns : goal.returns
returns c =
    old_none c.args.context.now c.args.number c.args.table.now (told_of c.args.one.now)
    c.args.old.now c.loop-at.at c.len-at-end.result c.loop-at.invariant c.len-at-end.ensures
    c.loop-at-test.false
