use Rattle.ba_facts.specs.Walks.{every}
use Rattle.ba_instant.proofs.ReachLemmas.{reach_not_met}
use Rattle.ba_instant.proofs.reach.ReachVisit.end.Goals as goal

pub returns-clause-visited : goal.returns-clause-visited
returns-clause-visited c =
    reach_not_met c.args.self.now c.args.walk.now c.requires c.args.chosen.now (every c.args.walk.now.branch.now) (λ h. let t = c.is_met.ensures.1 h in cc)
