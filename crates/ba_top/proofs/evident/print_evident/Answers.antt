use Rattle.std.proofs.Common.{◌∙◌, subst, sym}
use Rattle.std.proofs.lemmas.Str.{IsUtf8-string_bytes}
use Rattle.std.specs.Str.{IsUtf8}
use Rattle.ba_plan.proofs.SendingLines.{lines_no_memory}
use Rattle.ba_top.proofs.EvidenceLemmas.{closes_after_lines}
use Rattle.ba_top.proofs.ProofsLemmas.{evident_sent, evident_written, if_ok_all, policy_checked}
use Rattle.ba_top.specs.Audited.{told_value}
use Rattle.ba_top.specs.Evidence.{trace_at}
use Rattle.ba_wire.specs.Printed.{ReadsBack}
use Rattle.ba_top.proofs.evident.print_evident.Goals as goal

pub evident_text-requires-clause-checked : goal.evident_text-requires-clause-checked
evident_text-requires-clause-checked g c = policy_checked c.args.input.now c.requires.input c.checked_links_fit.ensures

pub returns-in_default-clause-sent : goal.returns-in_default-clause-sent
returns-in_default-clause-sent g c = λ earlier said line after. lines_no_memory (Unit {0}) _ _

pub returns-clause-sent : goal.returns-clause-sent
returns-clause-sent g c = λ earlier said line after.
    evident_sent c.args.input.now earlier c.args.entry.now c.args.requests.now c.args.line c.args.said.now c.name_in-name.result.now c.as_bytes.result.now (g.S.Sink.seen c.args.sink.now) (g.S.Sink.seen c.send.new.sink) c.send.result
    said line after c.name_in-name.ensures (c.as_bytes.ensures.value ∙ c.in-Ok.ensures.text) c.send.ensures

pub returns-clause-closes : goal.returns-clause-closes
returns-clause-closes g c = λ earlier after.
    if_ok_all _ c.send.result (closes_after_lines c.args.input.now earlier c.args.requests.now c.args.entry.now after c.in-Ok.ensures.closes)

pub returns-clause-written : goal.returns-clause-written
returns-clause-written g c = λ earlier said line after.
    if_ok_all _ c.send.result
    (evident_written c.args.input.now earlier c.args.entry.now c.args.requests.now c.args.line c.args.said.now c.name_in-name.result.now c.as_bytes.result.now
    said line after c.name_in-name.ensures (subst IsUtf8 (sym c.as_bytes.ensures.value) (IsUtf8-string_bytes c.in-Ok.text)) (c.as_bytes.ensures.value ∙ c.in-Ok.ensures.text)
    (subst (λ z. ReadsBack z (told_value c.args.input.now.policy (trace_at c.args.requests.now.traces.items) c.name_in-name.result.now c.args.line c.args.entry.now)) (sym c.as_bytes.ensures.value) c.in-Ok.ensures.reads_back)
    c.in-Ok.ensures.bits)
