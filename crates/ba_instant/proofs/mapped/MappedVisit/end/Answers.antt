use Rattle.ba_facts.specs.Walks.{every}
use Rattle.ba_instant.proofs.MappedWalks.{mapped_end, mapped_not_met, mapped_told}
use Rattle.ba_instant.proofs.mapped.MappedVisit.end.Goals as goal

pub returns-then-is_told-clause-visited : goal.returns-then-is_told-clause-visited
returns-then-is_told-clause-visited c =
    mapped_told c.args.self.now c.requires.0 c.args.chosen.now (every c.args.walk.now.branch.now) c.args.best.now (c.is_told.ensures c.if-is_told.true)

pub returns-then-not-is_met-clause-visited : goal.returns-then-not-is_met-clause-visited
returns-then-not-is_met-clause-visited c =
    mapped_not_met c.args.self.now c.args.walk.now c.requires.1 c.args.chosen.now (every c.args.walk.now.branch.now) c.args.best.now
    (λ h. let t = c.is_met.ensures.1 h in cc)

pub returns-clause-visited : goal.returns-clause-visited
returns-clause-visited c =
    mapped_end c.args.self.now c.args.walk.now c.requires.1 c.args.chosen.now (every c.args.walk.now.branch.now) c.in_ok-facts.facts c.on-step.result c.args.best.now
    c.offer_shown.new.best (c.is_met.ensures.0 c.if-not-is_met.false) c.in_ok-facts.ensures c.on-step.ensures c.in_ok-offer_shown.ensures
