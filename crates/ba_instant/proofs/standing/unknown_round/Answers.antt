use Rattle.ba_instant.proofs.StandingLemmas.{held_round, none_holds}
use Rattle.ba_instant.proofs.standing.unknown_round.Goals as goal

pub returns-in-Some : goal.returns-in-Some
returns-in-Some c =
    held_round c.args.branch.now c.args.unknown c.holder.result c.holder.ensures c.in-Some.number c.in-Some.is c.round_at.result c.round_at.ensures

pub returns-in-None : goal.returns-in-None
returns-in-None c = none_holds c.args.branch.now c.args.unknown c.holder.result c.holder.ensures _ c.in-None.is
