use Rattle.std.proofs.Common.{[], option_copied}
use Rattle.ba_facts.proofs.RoundLemmas.{atom_spared}
use Rattle.ba_facts.proofs.WalkLemmas.{needless}
use Rattle.ba_facts.proofs.matches.rounds.GivenAtomVisit.takes.Goals as goal

pub returns-clause-spared : goal.returns-clause-spared
returns-clause-spared c = λ spared.
    atom_spared c.args.walk.now (option_copied c.args.self.now.row) c.args.self.now.atom.now c.args.from.now c.args.chosen.now c.args.number [] _
    (c.is_needless.ensures (needless c.is_needless.result spared))
