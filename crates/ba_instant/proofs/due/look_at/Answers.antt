use Rattle.std.proofs.Common.{subst, sym}
use Rattle.ba_instant.proofs.NextLemmas.{agenda_at, open_back, passes_closed, passes_due, passes_waiting}
use Rattle.ba_instant.specs.Offers.{IsDueIfAny}
use Rattle.ba_instant.proofs.due.look_at.Goals as goal

pub returns-then-may_wait-clause-looked : goal.returns-then-may_wait-clause-looked
returns-then-may_wait-clause-looked c =
    let may = c.may_wait.ensures.0 c.if-may_wait.true in
    passes_waiting c.args.pick c.args.search.now c.args.number c.args.waiting.now c.args.first.now may.0 may.1 c.requires

pub returns-in_None-search-clause-looked : goal.returns-in_None-search-clause-looked
returns-in_None-search-clause-looked c = passes_closed c.args.pick c.args.search.now c.args.number c.args.first.now (sym c.in_None-search.ensures)

pub returns-in-Some-clause-looked : goal.returns-in-Some-clause-looked
returns-in-Some-clause-looked c =
    passes_due c.args.pick c.args.search.now c.args.number (record { found = c.in-Some.found; agenda = c.due_step.new.agenda })
    (subst (IsDueIfAny c.args.search.now c.args.pick c.args.number) c.in-Some.is c.in_ok-due-in_Some-search.ensures.due)
    (agenda_at c.args.pick c.args.search.now c.args.number c.in_Some-search.branch.now c.due_step.new.agenda
    (open_back c.args.search.now.slots c.args.number c.in_Some-search.branch.now (sym c.in_Some-search.ensures)) c.in_ok-due-in_Some-search.ensures.agenda) c.args.first.now
    c.keep_picked.new.first c.keep_picked.ensures

pub due_step-requires-clause-agenda : goal.due_step-requires-clause-agenda
due_step-requires-clause-agenda c =
    let taken = c.take_agenda-agenda.ensures.agenda c.args.pick c.args.search.now c.requires in
    taken.of c.in_Some-search.branch.now (open_back c.args.search.now.slots c.args.number c.in_Some-search.branch.now (sym c.in_Some-search.ensures))
