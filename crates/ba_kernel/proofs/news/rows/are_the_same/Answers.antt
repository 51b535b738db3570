use Rattle.std.proofs.Common.{◌<◌, arith, length}
use Rattle.ba_facts.specs.Shown.{TheSame}
use Rattle.ba_kernel.proofs.NewLemmas.{pair_more}
use Rattle.ba_kernel.proofs.news.rows.are_the_same.Goals as goal

pub loop-i-preserved : goal.loop-i-preserved
loop-i-preserved c =
    pair_more (TheSame c.args.branch.now.known) c.args.left.now c.args.right.now c.loop-i.i _ _ c.loop-i-test.true
    (let below : c.loop-i.i < length c.args.right.now = omega arith in below) c.index-left-i.is c.index-right-i.is
    (c.same.ensures.0 c.if-not-same.false) c.loop-i.invariant
