use Rattle.std.proofs.Common.{sym, subst}
use Rattle.serde_json.specs.View.{view}
use Rattle.ba_model.specs.Readings.{Gives}
use Rattle.ba_store.proofs.TextLemmas.{no_text_reads, text_reads}
use Rattle.ba_store.proofs.draft.draft_of.Goals as goal

pub returns-in-Ok : goal.returns-in-Ok
returns-in-Ok c =
    let read = c.in-Ok.ensures.ok in
    subst (Gives c.draft_at.result) (sym (text_reads c.args.policy.now c.args.bytes.now (view c.in-Ok.value) read.0 read.1)) c.draft_at.ensures

pub returns-else-is_memory : goal.returns-else-is_memory
returns-else-is_memory c =
    no_text_reads c.args.policy.now c.args.bytes.now (λ text. c.in-Err.ensures.err (λ lost. cc (c.if-is_memory.ensures.1 lost)) text)
