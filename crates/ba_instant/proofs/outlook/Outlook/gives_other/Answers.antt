use Rattle.std.proofs.Common.{◌<◌, arith, length}
use Rattle.ba_instant.proofs.OutlookLemmas.{other_at}
use Rattle.ba_instant.proofs.outlook.Outlook.gives_other.Goals as goal

pub returns-then-is_different : goal.returns-then-is_different
returns-then-is_different c = λ e.
    other_at c.args.self.now c.args.own c.args.head.now c.args.row.now c.loop-i.i c.index-head-i.result c.index-row-i.result
    (let below : c.loop-i.i < length c.args.head.now = omega arith in below) (let below : c.loop-i.i < length c.args.row.now = omega arith in below)
    c.index-head-i.is c.index-row-i.is (c.is_different.ensures c.if-is_different.true)
