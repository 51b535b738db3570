use Rattle.std.proofs.Common.{◌<◌, arith, length}
use Rattle.ba_instant.proofs.PlaceLemmas.{any_pair}
use Rattle.ba_instant.proofs.asked.Asking.gives_another.Goals as goal
use Rattle.ba_instant.specs.QuietKeys.{GivesAnother}

pub returns-then-is_another : goal.returns-then-is_another
returns-then-is_another c =
    λ _. any_pair (GivesAnother c.args.self.now.known.now c.args.self.now.moves.now c.args.place c.args.row.now) c.args.head.now c.args.self.now.asked.now c.loop-i.i _ _ c.loop-i-test.true
    (let below : c.loop-i.i < length c.args.self.now.asked.now = omega arith in below) c.index-head-i.is c.index-asked-i.is (c.is_another.ensures c.if-is_another.true)
