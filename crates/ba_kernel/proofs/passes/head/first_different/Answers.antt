use Rattle.ba_kernel.proofs.PassLemmas.{head_all, head_first, head_more}
use Rattle.ba_kernel.specs.Effects.{rows_at}
use Rattle.ba_kernel.proofs.passes.head.first_different.Goals as goal

pub returns-then-not-is_same_at : goal.returns-then-not-is_same_at
returns-then-not-is_same_at c =
    head_first c.args.branch.now.known (rows_at c.args.branch.now c.args.facts.now) c.args.head.now c.args.branch.now.goal c.requires
    c.loop-column.column c.index-head-column.result c.loop-column-test.true c.index-head-column.is
    (λ h. let t = c.is_same_at.ensures.1 h in cc) c.loop-column.invariant

pub loop-column-preserved : goal.loop-column-preserved
loop-column-preserved c =
    head_more c.args.branch.now.known (rows_at c.args.branch.now c.args.facts.now) c.args.head.now c.args.branch.now.goal c.requires
    c.loop-column.column c.index-head-column.result c.loop-column-test.true c.index-head-column.is
    (c.is_same_at.ensures.0 c.if-not-is_same_at.false) c.loop-column.invariant

pub returns : goal.returns
returns c =
    head_all c.args.branch.now.known (rows_at c.args.branch.now c.args.facts.now) c.args.head.now c.args.branch.now.goal c.requires
    c.loop-column.column c.loop-column-test.false c.loop-column.invariant
