use Rattle.ba_instant.proofs.StandingLemmas.{unknown_stands}
use Rattle.ba_instant.proofs.standing.term_round.Goals as goal

pub returns-in-Unknown : goal.returns-in-Unknown
returns-in-Unknown c =
    unknown_stands c.args.branch.now c.in-Unknown.n c.unknown_round.result c.args.term.now c.unknown_round.ensures c.in-Unknown.is
