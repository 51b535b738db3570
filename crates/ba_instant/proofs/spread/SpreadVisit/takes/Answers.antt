use Rattle.std.proofs.Common.{refl}
use Rattle.ba_instant.proofs.OfferWalks.{tried_none, tried_one}
use Rattle.ba_instant.proofs.SpreadWalks.{alike_spared, lost_spared}
use Rattle.ba_instant.proofs.spread.SpreadVisit.takes.Goals as goal

pub returns-then-is_lost-clause-tried : goal.returns-then-is_lost-clause-tried
returns-then-is_lost-clause-tried c = tried_none c.args.tried.now.items c.args.tried.now.items c.args.number refl

pub returns-then-is_lost-clause-spared : goal.returns-then-is_lost-clause-spared
returns-then-is_lost-clause-spared c = λ spared.
    lost_spared c.args.self.now c.args.walk.now c.requires.1 c.args.from.now c.args.chosen.now c.args.number c.args.tried.now.items c.args._best.now
    (c.is_lost.ensures c.if-is_lost.true)

pub returns-then-has_alike-clause-tried : goal.returns-then-has_alike-clause-tried
returns-then-has_alike-clause-tried c = tried_none c.args.tried.now.items c.args.tried.now.items c.args.number refl

pub returns-then-has_alike-clause-spared : goal.returns-then-has_alike-clause-spared
returns-then-has_alike-clause-spared c = λ spared.
    alike_spared c.args.self.now c.args.from.now c.args.chosen.now c.args.number c.args.tried.now.items c.args._best.now
    (let alike = c.has_alike.ensures c.if-has_alike.true in rw c.deref-2.ensures.value at alike)

pub returns-clause-tried : goal.returns-clause-tried
returns-clause-tried c = tried_one c.args.tried.now.items c.push.new.self.items c.args.number c.in_ok-push.ensures.items
