use Rattle.ba_facts.proofs.RepeatLemmas.{none_here}
use Rattle.ba_facts.specs.Matches.{row_of}
use Rattle.ba_facts.specs.Walks.{every}
use Rattle.ba_facts.proofs.matches.answered.GivenRowVisit.end.Goals as goal

pub returns-clause-visited : goal.returns-clause-visited
returns-clause-visited c =
    let walk = c.args.walk.now in
    none_here walk (row_of walk.branch.now c.args.self.now.facts.now c.args.self.now.operands.now) c.args.chosen.now (every walk.branch.now)
    (λ h. let t = c.is_given.ensures.1 h in cc)
