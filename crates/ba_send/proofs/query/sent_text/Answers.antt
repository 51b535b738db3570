use Rattle.std.proofs.Common.{◌≡◌, ◌∙◌, ◌≤◌, List, ℕ, ap, arith, length, string_bytes, subst, sym, map}
use Rattle.std.specs.List.{All}
use Rattle.ba_keys.specs.Literals.{part_with}
use Rattle.ba_model.specs.Fit.{kinds_of}
use Rattle.ba_model.specs.declared.schema.Schema.{Schema}
use Rattle.ba_model.specs.declared.value.Value.{Value}
use Rattle.ba_send.specs.ReadBack.{ReadsSent}
use Rattle.ba_send.specs.Sent.{closed, most_sent_bytes, sent_bytes}
use Rattle.ba_sql_print.specs.Spelling.{PartInRange}
use Rattle.ba_send.proofs.ReadsLemmas.{sent_reads}
use Rattle.ba_send.proofs.query.sent_text.Goals as goal

pub returns-clause-reads : goal.returns-clause-reads
returns-clause-reads c =
    let target = c.args.target.now in
    let policy = c.args.policy.now in
    let context = c.args.context.now in
    let query = c.args.query.now in
    let text : List ℕ = string_bytes c.in_ok-text.text in
    let same : text ≡ sent_bytes target policy.schema context query =
    c.in_ok-text.ensures ∙ ap (λ (s : Schema). sent_bytes target s context query) c.deref-2.ensures in
    let range : All PartInRange (map (part_with 0 context.values) query.parts) =
    subst (λ (vs : List Value). All PartInRange (map (part_with 0 vs) query.parts)) c.as_slice.ensures c.query_has_zero.ensures.range in
    let short : length text ≤ most_sent_bytes = omega (arith, c.if-len-gt-MAX_SENT_BYTES.false, c.len.ensures, c.in_ok-text.text.ok) in
    subst (λ (t : List ℕ). ReadsSent target policy.schema t (closed context query)) (sym same)
    (sent_reads target policy.schema (kinds_of policy.params) context query c.requires.tables c.requires.serves c.requires.query c.requires.context range
    (subst (λ (t : List ℕ). length t ≤ most_sent_bytes) same short))
