use Rattle.std.proofs.Common.{◌≤◌, arith, subst, true}
use Rattle.std.specs.Prelude.{None}
use Rattle.ba_instant.proofs.AgendaLemmas.{batch_is_agenda, empty_is_quiet, none_due, quiet_below, telling_due}
use Rattle.ba_instant.specs.Agendas.{MOST_ROUND}
use Rattle.ba_instant.specs.Offers.{Improves, IsTelling}
use Rattle.ba_instant.proofs.due.OpenBranch.next_round.Goals as goal

pub telling_steps-requires-clause-quiet : goal.telling_steps-requires-clause-quiet
telling_steps-requires-clause-quiet c =
    quiet_below c.args.self.now.search.now.problem c.args.self.now.branch.now c.args.self.now.number _ c.args.agenda.now.round (let low : _ ≤ c.args.agenda.now.round = omega (arith, c.min-quiet.ensures) in low)
    (empty_is_quiet c.args.self.now.pick c.args.self.now.search.now.problem c.args.self.now.number c.args.self.now.branch.now c.args.agenda.now c.requires.agenda c.requires.empty)

pub returns-in_ok-first-in-Some-clause-due : goal.returns-in_ok-first-in-Some-clause-due
returns-in_ok-first-in-Some-clause-due c =
    telling_due c.args.self.now.search.now c.args.self.now.number c.args.self.now.branch.now c.requires.open c.args.self.now.pick c.in-Some.batch (record c.in_ok-agenda-in-Some.field-0 { older = c.in_ok-older.older; silent = true })
    (record { round = c.in_ok-agenda-in-Some.ensures.round; has = c.in_ok-agenda-in-Some.ensures.has; from = c.in_ok-agenda-in-Some.ensures.from; in_turn = c.in_ok-agenda-in-Some.ensures.in_turn }) c.requires.closing
    (subst (Improves c.args.self.now.search.now c.args.self.now.pick (IsTelling c.args.self.now.number) None) c.in-Some.is c.in_ok-telling.ensures) c.in_ok-first-in-Some.first c.in_ok-first-in-Some.ensures

pub returns-in_ok-first-in-Some-clause-agenda : goal.returns-in_ok-first-in-Some-clause-agenda
returns-in_ok-first-in-Some-clause-agenda c =
    batch_is_agenda c.args.self.now.search.now c.args.self.now.number c.args.self.now.branch.now c.requires.open c.args.self.now.pick c.in-Some.batch (record c.in_ok-agenda-in-Some.field-0 { older = c.in_ok-older.older; silent = true })
    (record { round = c.in_ok-agenda-in-Some.ensures.round; has = c.in_ok-agenda-in-Some.ensures.has; from = c.in_ok-agenda-in-Some.ensures.from; in_turn = c.in_ok-agenda-in-Some.ensures.in_turn }) c.min-quiet.result
    (let most : c.min-quiet.result ≤ MOST_ROUND = omega (arith, c.min-quiet.ensures) in most)
    (quiet_below c.args.self.now.search.now.problem c.args.self.now.branch.now c.args.self.now.number _ c.args.agenda.now.round (let low : _ ≤ c.args.agenda.now.round = omega (arith, c.min-quiet.ensures) in low)
    (empty_is_quiet c.args.self.now.pick c.args.self.now.search.now.problem c.args.self.now.number c.args.self.now.branch.now c.args.agenda.now c.requires.agenda c.requires.empty))
    c.in_ok-older.ensures c.requires.closing
    (subst (Improves c.args.self.now.search.now c.args.self.now.pick (IsTelling c.args.self.now.number) None) c.in-Some.is c.in_ok-telling.ensures)

pub returns-in-None-clause-due : goal.returns-in-None-clause-due
returns-in-None-clause-due c =
    none_due c.args.self.now.search.now c.args.self.now.number c.args.self.now.branch.now c.requires.open c.args.self.now.pick c.requires.closing
    (subst (Improves c.args.self.now.search.now c.args.self.now.pick (IsTelling c.args.self.now.number) None) c.in-None.is c.in_ok-telling.ensures)
