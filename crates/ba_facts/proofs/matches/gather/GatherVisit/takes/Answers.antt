use Rattle.std.proofs.Common.{[]}
use Rattle.ba_facts.proofs.WalkLemmas.{gathers_spared, needless}
use Rattle.ba_facts.proofs.matches.gather.GatherVisit.takes.Goals as goal

pub returns-clause-spared : goal.returns-clause-spared
returns-clause-spared c = λ spared.
    let walk = c.args.walk.now in
    gathers_spared walk.branch.now walk.side walk.part.now walk.wanted (λ found. found.items) c.args._from.now c.args.chosen.now c.args._number [] c.args._state.now
    (c.is_hopeless.ensures.0 (needless c.is_hopeless.result spared))
