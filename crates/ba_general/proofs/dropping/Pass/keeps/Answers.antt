use Rattle.ba_general.proofs.GuessLemmas.{guess_accepted}
use Rattle.ba_general.proofs.dropping.Pass.keeps.Goals as goal

pub returns-in-Some : goal.returns-in-Some
returns-in-Some c =
    let self = c.args.self.now in
    λ told.
    guess_accepted self.pattern.now.problem self.steps.now self.atoms.items self.kept.items c.args.guess.now c.in-Some.guess c.in-Some.is c.requires.flags c.requires.atoms
    c.requires.guess (c.are_among.ensures told)
