use Rattle.std.proofs.Common.{◌∙◌, ap}
use Rattle.ba_plan.proofs.SendingLines.{lines_no_memory}
use Rattle.ba_wire.specs.Printed.{line_bytes}
use Rattle.ba_top.specs.Text.{entry_line}
use Rattle.ba_top.proofs.PrintLemmas.{entry_sent}
use Rattle.ba_top.proofs.print.print_entry.Goals as goal

pub returns-in_default : goal.returns-in_default
returns-in_default g c = λ earlier said line. lines_no_memory (Unit {0}) _ _

pub returns : goal.returns
returns g c = λ earlier said line.
    entry_sent c.args.input.now earlier c.args.entry.now c.args.line c.args.said.now c.as_bytes.result.now (g.S.Sink.seen c.args.sink.now) (g.S.Sink.seen c.send.new.sink) c.send.result
    said line (c.as_bytes.ensures.value ∙ (c.in-Ok.ensures.text ∙ ap (λ n. line_bytes (entry_line c.args.input.now.policy n c.args.line c.args.entry.now)) c.name_in.ensures)) c.send.ensures
