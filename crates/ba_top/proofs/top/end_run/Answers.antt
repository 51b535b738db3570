use Rattle.ba_top.proofs.ProofsLemmas.{when_ok}
use Rattle.ba_top.specs.Audited.{TellsWritten}
use Rattle.ba_top.specs.Told.{TellsClosed}
use Rattle.ba_top.proofs.top.end_run.Goals as goal

pub returns-clause-closed : goal.returns-clause-closed
returns-clause-closed g c = λ done.
    when_ok (TellsClosed c.args.told c.args.input.now c.args.journal.now) c.print_told-sent.result c.print_told-sent.ensures.closed (c.ended.ensures.done done)

pub returns-clause-written : goal.returns-clause-written
returns-clause-written g c = λ done.
    when_ok (TellsWritten c.args.told c.args.input.now c.args.journal.now) c.print_told-sent.result c.print_told-sent.ensures.written (c.ended.ensures.done done)
