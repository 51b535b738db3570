use Rattle.ba_audit.specs.Keeping.{basis_at}
use Rattle.ba_audit.proofs.HeardLemmas.{takes_read}
use Rattle.ba_audit.proofs.auditing.take_read.Goals as goal

pub returns-in_ok-count-in-Met-clause-ok : goal.returns-in_ok-count-in-Met-clause-ok
returns-in_ok-count-in-Met-clause-ok c =
    takes_read (basis_at c.args.against.now) c.args.number c.args.entry.now c.args.line.now c.args.told.now c.note.new.self c.count.new.self c.in_ok-heard.heard c.in-Met.added c.in-Met.is
    c.in_ok-heard.ensures.heard c.in_ok-heard.ensures.fitting c.in_ok-note-in-Met.ensures c.in_ok-count-in-Met.ensures
