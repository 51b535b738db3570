use Rattle.std.proofs.Common.{subst}
use Rattle.std.specs.Prelude.{None}
use Rattle.ba_instant.proofs.AgendaLemmas.{closes_of, none_closes}
use Rattle.ba_instant.specs.Offers.{Improves, IsClosing}
use Rattle.ba_instant.proofs.due.OpenBranch.due_step.Goals as goal

pub telling_step-requires-clause-closing : goal.telling_step-requires-clause-closing
telling_step-requires-clause-closing c =
    closes_of c.args.self.now.search.now c.args.self.now.number c.args.self.now.branch.now c.requires.open c.args.self.now.pick (c.requires.agenda.silent c.if-agenda.true)

pub first_of-requires-clause-closing : goal.first_of-requires-clause-closing
first_of-requires-clause-closing c =
    subst (Improves c.args.self.now.search.now c.args.self.now.pick (IsClosing c.args.self.now.number) None) c.in-Some.is c.in_ok-closing.ensures

pub telling_step-requires-in-None-clause-closing : goal.telling_step-requires-in-None-clause-closing
telling_step-requires-in-None-clause-closing c =
    none_closes c.args.self.now.search.now c.args.self.now.number c.args.self.now.branch.now c.requires.open c.args.self.now.pick
    (subst (Improves c.args.self.now.search.now c.args.self.now.pick (IsClosing c.args.self.now.number) None) c.in-None.is c.in_ok-closing.ensures)
