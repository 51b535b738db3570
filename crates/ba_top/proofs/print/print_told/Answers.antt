use Rattle.ba_top.proofs.PrintLemmas.{summary_told, templates_told}
use Rattle.ba_top.proofs.ProofsLemmas.{lines_tell, lines_write, summary_tells, summary_writes, templates_tell, templates_write}
use Rattle.ba_top.proofs.print.print_told.Goals as goal

pub returns-in-Summary-clause-sent : goal.returns-in-Summary-clause-sent
returns-in-Summary-clause-sent g c =
    summary_told c.args.told c.args.input.now c.args.journal.now (g.S.Sink.seen c.args.sink.now) (g.S.Sink.seen c.print_summary.new.sink) c.print_summary.result c.in-Summary.is c.print_summary.ensures.sent

pub returns-in-Templates-clause-sent : goal.returns-in-Templates-clause-sent
returns-in-Templates-clause-sent g c =
    templates_told c.args.told c.args.input.now c.args.journal.now (g.S.Sink.seen c.args.sink.now) (g.S.Sink.seen c.print_templates.new.sink) c.print_templates.result c.in-Templates.is c.print_templates.ensures

pub returns-in-Lines-clause-closed : goal.returns-in-Lines-clause-closed
returns-in-Lines-clause-closed g c = lines_tell c.args.told c.args.input.now c.args.journal.now c.print_lines.result c.in-Lines.is

pub returns-in-Summary-clause-closed : goal.returns-in-Summary-clause-closed
returns-in-Summary-clause-closed g c = summary_tells c.args.told c.args.input.now c.args.journal.now c.print_summary.result c.in-Summary.is

pub returns-in-Templates-clause-closed : goal.returns-in-Templates-clause-closed
returns-in-Templates-clause-closed g c = templates_tell c.args.told c.args.input.now c.args.journal.now c.print_templates.result c.in-Templates.is

pub returns-in-Lines-clause-written : goal.returns-in-Lines-clause-written
returns-in-Lines-clause-written g c = lines_write c.args.told c.args.input.now c.args.journal.now c.print_lines.result c.in-Lines.is

pub returns-in-Summary-clause-written : goal.returns-in-Summary-clause-written
returns-in-Summary-clause-written g c = summary_writes c.args.told c.args.input.now c.args.journal.now c.print_summary.result c.in-Summary.is

pub returns-in-Templates-clause-written : goal.returns-in-Templates-clause-written
returns-in-Templates-clause-written g c = templates_write c.args.told c.args.input.now c.args.journal.now c.print_templates.result c.in-Templates.is
