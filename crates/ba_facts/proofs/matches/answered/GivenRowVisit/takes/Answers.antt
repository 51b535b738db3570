use Rattle.std.proofs.Common.{[]}
use Rattle.ba_facts.proofs.RepeatLemmas.{row_spared}
use Rattle.ba_facts.proofs.WalkLemmas.{needless}
use Rattle.ba_facts.specs.Matches.{row_of}
use Rattle.ba_facts.proofs.matches.answered.GivenRowVisit.takes.Goals as goal

pub returns-clause-spared : goal.returns-clause-spared
returns-clause-spared c = λ spared.
    let walk = c.args.walk.now in
    row_spared walk (row_of walk.branch.now c.args.self.now.facts.now c.args.self.now.operands.now) c.args.from.now c.args.chosen.now c.args.number [] _
    (c.is_needless.ensures (needless c.is_needless.result spared))
