use Rattle.std.proofs.Common.{◌<◌, arith, length}
use Rattle.ba_facts.proofs.FrontLemmas.{other_front}
use Rattle.ba_facts.proofs.walk.Walk.is_no_front.Goals as goal

pub returns-then-is_not : goal.returns-then-is_not
returns-then-is_not c = λ e.
    other_front c.args.self.now.branch.now _ _ _ _ c.loop-i.i c.index-head-i.result c.index-row-i.result (let below : c.loop-i.i < length c.args.head.now = omega arith in below)
    (let below : c.loop-i.i < length c.args.row.now = omega arith in below) c.index-head-i.is c.index-row-i.is
    (c.is_not.ensures.0 c.if-is_not.true)
