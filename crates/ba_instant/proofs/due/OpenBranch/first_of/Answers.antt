use Rattle.ba_instant.proofs.AgendaLemmas.{closing_due}
use Rattle.ba_instant.proofs.due.OpenBranch.first_of.Goals as goal

pub returns : goal.returns
returns c =
    closing_due c.args.self.now.search.now c.args.self.now.number c.args.self.now.branch.now c.requires.open c.args.self.now.pick c.args.batch c.in_ok-agenda.agenda c.in_ok-agenda.ensures c.requires.closing c.in_ok-first.first c.in_ok-first.ensures
