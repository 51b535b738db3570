use Rattle.std.proofs.Common.{sym, subst}
use Rattle.serde_json.specs.View.{view}
use Rattle.ba_model.specs.Readings.{Gives}
use Rattle.ba_printed.proofs.LineSaid.{printed_json, printed_no_json}
use Rattle.ba_printed.proofs.read.read_printed.Goals as goal

pub returns-in-Ok : goal.returns-in-Ok
returns-in-Ok c =
    let read = c.in-Ok.ensures.ok in
    subst (Gives c.line_of.result) (sym (printed_json c.args.policy.now c.args.bytes.now (view c.in-Ok.value) (record { utf8 = read.0; reads = read.1 }))) c.line_of.ensures

pub returns-else-is_memory : goal.returns-else-is_memory
returns-else-is_memory c =
    printed_no_json c.args.policy.now c.args.bytes.now (λ text. c.in-Err.ensures.err (λ lost. cc (c.if-is_memory.ensures.1 lost)) text)
