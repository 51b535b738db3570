use Rattle.std.proofs.Common.{refl}
use Rattle.ba_instant.proofs.OfferWalks.{tried_none, tried_one}
use Rattle.ba_instant.proofs.ReachLemmas.{reach_alike, reach_spared}
use Rattle.ba_instant.proofs.reach.ReachVisit.takes.Goals as goal

pub returns-then-is_lost-clause-tried : goal.returns-then-is_lost-clause-tried
returns-then-is_lost-clause-tried c = tried_none c.args.tried.now.items c.args.tried.now.items c.args.number refl

pub returns-then-is_lost-clause-spared : goal.returns-then-is_lost-clause-spared
returns-then-is_lost-clause-spared c = λ spared.
    reach_spared c.args.self.now c.args.walk.now c.requires c.args._from.now c.args.chosen.now c.args.number c.args.tried.now.items c.args._state.now
    (c.is_lost.ensures c.if-is_lost.true)

pub returns-then-has_alike-clause-tried : goal.returns-then-has_alike-clause-tried
returns-then-has_alike-clause-tried c = tried_none c.args.tried.now.items c.args.tried.now.items c.args.number refl

pub returns-then-has_alike-clause-spared : goal.returns-then-has_alike-clause-spared
returns-then-has_alike-clause-spared c = λ spared.
    reach_alike c.args.self.now c.args._from.now c.args.chosen.now c.args.number c.args.tried.now.items c.args._state.now
    (let alike = c.has_alike.ensures c.if-has_alike.true in rw c.deref.ensures.value at alike)

pub returns-in-Ok-clause-tried : goal.returns-in-Ok-clause-tried
returns-in-Ok-clause-tried c = tried_one c.args.tried.now.items c.push.new.self.items c.args.number c.in-Ok.ensures.items
