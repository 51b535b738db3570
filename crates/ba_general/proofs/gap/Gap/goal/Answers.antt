use Rattle.std.proofs.Common.{subst}
use Rattle.ba_general.proofs.GapLemmas.{no_goal}
use Rattle.ba_general.specs.Leaving.{IsClosedUp, IsMoved, MaybeAll}
use Rattle.ba_general.proofs.gap.Gap.goal.Goals as goal

pub returns-in-Some : goal.returns-in-Some
returns-in-Some c = IsMoved.goal (subst (MaybeAll (IsClosedUp c.args.self.facts) c.args.facts.now) c.in-Some.is c.in_ok-moved.ensures)

pub returns-in-None : goal.returns-in-None
returns-in-None c =
    no_goal c.args.self c.args.branch c.args.part c.args.facts.now (subst (MaybeAll (IsClosedUp c.args.self.facts) c.args.facts.now) c.in-None.is c.in_ok-moved.ensures)
