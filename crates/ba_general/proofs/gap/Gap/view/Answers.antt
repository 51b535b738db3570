use Rattle.std.proofs.Common.{subst}
use Rattle.ba_general.proofs.GapLemmas.{no_view}
use Rattle.ba_general.specs.Leaving.{IsClosedUp, IsMoved, MaybeAll}
use Rattle.ba_general.proofs.gap.Gap.view.Goals as goal

pub returns-in-Some : goal.returns-in-Some
returns-in-Some c = IsMoved.view (subst (MaybeAll (IsClosedUp c.args.self.facts) c.args.facts.now) c.in-Some.is c.in_ok-moved.ensures)

pub returns-in-None : goal.returns-in-None
returns-in-None c =
    no_view c.args.self c.args.branch c.args.view c.args.part c.args.facts.now (subst (MaybeAll (IsClosedUp c.args.self.facts) c.args.facts.now) c.in-None.is c.in_ok-moved.ensures)
