use Rattle.std.proofs.Common.{[]}
use Rattle.ba_facts.proofs.WalkLemmas.{needless}
use Rattle.ba_instant.proofs.MappedWalks.{late_spared, no_use_spared}
use Rattle.ba_instant.proofs.mapped.MappedVisit.takes.Goals as goal

pub returns-then-not-is_timely-clause-spared : goal.returns-then-not-is_timely-clause-spared
returns-then-not-is_timely-clause-spared c = λ spared.
    late_spared c.args.self.now c.requires.0 c.args.from.now c.args.chosen.now c.args.number [] c.args.best.now (λ h. let t = c.is_timely.ensures.1 h in cc)

pub returns-clause-spared : goal.returns-clause-spared
returns-clause-spared c = λ spared.
    no_use_spared c.args.self.now c.args.walk.now c.requires.1 c.args.from.now c.args.chosen.now c.args.number [] c.args.best.now
    (c.in_ok-no_use.ensures (needless c.in_ok-no_use.no_use spared))
