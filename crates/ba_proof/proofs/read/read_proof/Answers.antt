use Rattle.std.proofs.Common.{sym, subst}
use Rattle.serde_json.specs.View.{view}
use Rattle.ba_model.specs.Readings.{Gives}
use Rattle.ba_proof.proofs.ReadLemmas.{no_text_reads, text_reads}
use Rattle.ba_proof.proofs.read.read_proof.Goals as goal

pub returns-in-Ok-clause-exact : goal.returns-in-Ok-clause-exact
returns-in-Ok-clause-exact c =
    let read = c.in-Ok.ensures.ok in
    subst (Gives c.proof_at.result) (sym (text_reads c.args.policy.now c.args.bytes.now (view c.in-Ok.value) read.0 read.1)) c.proof_at.ensures.exact

pub returns-else-is_memory-clause-exact : goal.returns-else-is_memory-clause-exact
returns-else-is_memory-clause-exact c =
    no_text_reads c.args.policy.now c.args.bytes.now (λ text. c.in-Err.ensures.err (λ lost. cc (c.if-is_memory.ensures.1 lost)) text)
