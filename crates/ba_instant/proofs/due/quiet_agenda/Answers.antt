use Rattle.std.proofs.Common.{sym}
use Rattle.ba_instant.proofs.AgendaLemmas.{quiet_agenda_at}
use Rattle.ba_instant.proofs.NextLemmas.{open_back}
use Rattle.ba_instant.proofs.due.quiet_agenda.Goals as goal

pub returns-in_ok-mapped-in_Some-search : goal.returns-in_ok-mapped-in_Some-search
returns-in_ok-mapped-in_Some-search c =
    let branch = c.in_Some-search.branch.now in
    let is_open = open_back c.args.search.now.slots c.args.number branch (sym c.in_Some-search.ensures) in
    quiet_agenda_at c.args.pick c.args.search.now c.args.number branch c.args.round c.in_ok-mapped-in_Some-search.mapped is_open (c.requires.quiet branch is_open)
    c.in_ok-mapped-in_Some-search.ensures c.quiet.result c.quiet.ensures
