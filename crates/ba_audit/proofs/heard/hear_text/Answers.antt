use Rattle.std.proofs.Common.{◌≡◌, ◌∙◌, Err, IsTrue, Ok, Some, ap, subst, sym}
use Rattle.ba_model.specs.Readings.{Fails}
use Rattle.ba_sql_query.specs.Texts.{query_of}
use Rattle.ba_audit.specs.Lines.{reading_of}
use Rattle.ba_audit.specs.Tests.{fault_of}
use Rattle.ba_audit.specs.declared.request.Begun.TheVariants.{Asking}
use Rattle.ba_audit.proofs.AskLemmas.{read_is}
use Rattle.ba_audit.proofs.HeardLemmas.{heard_reading}
use Rattle.ba_audit.proofs.TestLemmas.{first_unread, heard_fault, heard_memory, is_true, not_true}
use Rattle.ba_audit.proofs.heard.hear_text.Goals as goal

pub returns-then-is_memory-clause-heard : goal.returns-then-is_memory-clause-heard
returns-then-is_memory-clause-heard c =
    heard_memory c.args.policy.now (Some (Asking c.args.asker.now)) (reading_of c.args.policy.now c.args.text.now) c.args.line.now (sym c.is_memory.ensures ∙ c.if-is_memory.true)

pub returns-then-not-says_none-clause-heard : goal.returns-then-not-says_none-clause-heard
returns-then-not-says_none-clause-heard c =
    let policy = c.args.policy.now in
    let text = c.args.text.now in
    let is = read_is policy c.deref.result.now c.deref-3.result.now c.deref-2.result.now text c.as_str.result.now c.deref.ensures c.deref-2.ensures c.deref-3.ensures c.as_str.ensures (Ok c.in-Ok.query) c.in-Ok.ensures.exact in
    first_unread policy (Some (Asking c.args.asker.now)) (reading_of policy text) c.args.line.now (sym c.is_memory.ensures ∙ c.if-is_memory.false)
    (λ e. not_true (subst IsTrue c.if-not-says_none.true (c.says_none.ensures.1 (e ∙ ap fault_of is))))

pub returns-in_ok-query-in-Ok-clause-heard : goal.returns-in_ok-query-in-Ok-clause-heard
returns-in_ok-query-in-Ok-clause-heard c =
    let policy = c.args.policy.now in
    let text = c.args.text.now in
    let is = read_is policy c.deref.result.now c.deref-3.result.now c.deref-2.result.now text c.as_str.result.now c.deref.ensures c.deref-2.ensures c.deref-3.ensures c.as_str.ensures (Ok c.in-Ok.query) c.in-Ok.ensures.exact in
    heard_reading policy c.args.asker.now c.in_ok-query-in-Ok.query (reading_of policy text) (is ∙ ap Ok (sym c.in_ok-query-in-Ok.ensures)) c.args.line.now
    (c.says_none.ensures.0 (is_true c.if-not-says_none.false)) c.hear_query.result c.hear_query.ensures.heard

pub returns-else-not-says_fault-clause-heard : goal.returns-else-not-says_fault-clause-heard
returns-else-not-says_fault-clause-heard c =
    let policy = c.args.policy.now in
    let text = c.args.text.now in
    let fails = subst (λ z. Fails z (query_of c.deref-2.result.now c.deref-3.result.now.params c.as_str.result.now)) c.in-Err-Fault.field-0-is c.in-Err-Fault.ensures.exact in
    let is = read_is policy c.deref.result.now c.deref-3.result.now c.deref-2.result.now text c.as_str.result.now c.deref.ensures c.deref-2.ensures c.deref-3.ensures c.as_str.ensures (Err c.in-Err-Fault.fault) fails in
    let says = rw c.in-Err-Fault.field-0-is at (c.says_fault.ensures.0 (is_true c.if-not-says_fault.false)) in
    heard_fault policy c.args.asker.now c.in-Err-Fault.fault (reading_of policy text) is c.args.line.now says
