use Rattle.std.proofs.Common.{refl, subst}
use Rattle.ba_instant.proofs.AgendaLemmas.{kept_due, silenced}
use Rattle.ba_instant.specs.Agendas.{IsFirstOf}
use Rattle.ba_instant.proofs.due.OpenBranch.telling_step.Goals as goal

pub next_round-requires-clause-agenda : goal.next_round-requires-clause-agenda
next_round-requires-clause-agenda c =
    c.drop_old.ensures.trimmed.keeps c.args.self.now.pick c.args.self.now.number c.args.self.now.branch.now c.requires.open
    (silenced c.args.self.now.search.now c.args.self.now.number c.args.self.now.branch.now c.requires.open c.args.self.now.pick c.args.agenda.now _ c.requires.closing refl refl refl c.requires.agenda)

pub returns-in-Some-clause-due : goal.returns-in-Some-clause-due
returns-in-Some-clause-due c =
    let first = subst (IsFirstOf c.drop_old.new.self) c.in-Some.is c.in_ok-first.ensures in
    kept_due c.args.self.now.search.now c.args.self.now.number c.args.self.now.branch.now c.requires.open c.args.self.now.pick c.requires.closing c.drop_old.new.self
    (c.drop_old.ensures.trimmed.keeps c.args.self.now.pick c.args.self.now.number c.args.self.now.branch.now c.requires.open
    (silenced c.args.self.now.search.now c.args.self.now.number c.args.self.now.branch.now c.requires.open c.args.self.now.pick c.args.agenda.now _ c.requires.closing refl refl refl c.requires.agenda))
    c.in-Some.found first (c.drop_old.ensures.new c.in-Some.found.step first.1)

pub returns-in-Some-clause-agenda : goal.returns-in-Some-clause-agenda
returns-in-Some-clause-agenda c =
    c.drop_old.ensures.trimmed.keeps c.args.self.now.pick c.args.self.now.number c.args.self.now.branch.now c.requires.open
    (silenced c.args.self.now.search.now c.args.self.now.number c.args.self.now.branch.now c.requires.open c.args.self.now.pick c.args.agenda.now _ c.requires.closing refl refl refl c.requires.agenda)
