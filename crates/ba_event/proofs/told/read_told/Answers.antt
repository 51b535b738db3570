use Rattle.std.proofs.Common.{sym, subst}
use Rattle.serde_json.specs.View.{view}
use Rattle.ba_model.specs.Readings.{Gives}
use Rattle.ba_event.proofs.TextLemmas.{told_of_json, told_of_no_json}
use Rattle.ba_event.proofs.told.read_told.Goals as goal

pub returns-in-Ok : goal.returns-in-Ok
returns-in-Ok c =
    let read = c.in-Ok.ensures.ok in
    subst (Gives c.told_at.result) (sym (told_of_json c.args.bytes.now (view c.in-Ok.value) read.0 read.1)) c.told_at.ensures

pub returns-else-is_memory : goal.returns-else-is_memory
returns-else-is_memory c = told_of_no_json c.args.bytes.now (λ text. c.in-Err.ensures.err (λ lost. cc (c.if-is_memory.ensures.1 lost)) text)
