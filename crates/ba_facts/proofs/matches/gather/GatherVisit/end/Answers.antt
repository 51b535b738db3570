use Rattle.ba_facts.proofs.WalkLemmas.{gathers_none, gathers_one}
use Rattle.ba_facts.specs.Walks.{every}
use Rattle.ba_facts.proofs.matches.gather.GatherVisit.end.Goals as goal

pub returns-in_ok-push-clause-visited : goal.returns-in_ok-push-clause-visited
returns-in_ok-push-clause-visited c =
    let walk = c.args.walk.now in
    gathers_one walk.branch.now walk.side walk.part.now walk.wanted c.args.chosen.now (every walk.branch.now) c.args.found.now.items _ _
    c.in_ok-push.ensures.items c.in_ok-mapping.ensures.0 (c.is_met.ensures.0 c.if-is_met.true) c.in_ok-mapping.ensures.1

pub returns-else-is_met-clause-visited : goal.returns-else-is_met-clause-visited
returns-else-is_met-clause-visited c =
    let walk = c.args.walk.now in
    gathers_none walk.branch.now walk.side walk.part.now walk.wanted c.args.chosen.now (every walk.branch.now) c.args.found.now.items
    (λ h. let t = c.is_met.ensures.1 h in cc)
