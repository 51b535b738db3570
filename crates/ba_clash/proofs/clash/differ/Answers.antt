use Rattle.ba_clash.specs.Steps.{told_of}
use Rattle.ba_clash.proofs.StepLemmas.{differ_none}
use Rattle.ba_clash.proofs.clash.differ.Goals as goal

pub returns : goal.returns
returns c =
    differ_none c.args.context.now c.args.table.now (told_of c.args.one.now)
    (told_of c.args.other.now) c.loop-column.column c.len-column-end.result
    c.loop-column.invariant
    c.len-column-end.ensures c.loop-column-test.false
