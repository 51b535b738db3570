use Rattle.std.proofs.Common.{option_copied}
use Rattle.ba_facts.proofs.RoundLemmas.{lowers_here}
use Rattle.ba_facts.specs.Walks.{every}
use Rattle.ba_facts.proofs.matches.rounds.GivenAtomVisit.end.Goals as goal

pub returns-then-is_had-clause-visited : goal.returns-then-is_had-clause-visited
returns-then-is_had-clause-visited c =
    lowers_here c.args.walk.now (option_copied c.args.self.now.row) c.args.self.now.atom.now c.args.chosen.now (every c.args.walk.now.branch.now) c.args.least.now _ c.round_of.result
    c.lesser.ensures c.round_of.ensures (c.is_met.ensures.0 c.if-is_met.true) (c.is_had.ensures.0 c.if-is_had.true)
