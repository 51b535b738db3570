use Rattle.std.proofs.Common.{◌≤◌, ◌∙◌, ap, subst, sym}
use Rattle.std.proofs.lemmas.Result.{IfOk-weaker}
use Rattle.std.specs.Prelude.{string_bytes}
use Rattle.serde_json.specs.Data.{depth}
use Rattle.serde_json.specs.Read.{max_depth}
use Rattle.serde_json.specs.Written.{has_float}
use Rattle.ba_wire.specs.Printed.{ReadsBack, json_line}
use Rattle.ba_evidence.proofs.JsonLemmas.{refuted_read_flat, refuted_read_whole}
use Rattle.ba_evidence.proofs.refuted.refuted_read_line.Goals as goal

pub returns-clause-text : goal.returns-clause-text
returns-clause-text c =
    let is = c.in_ok-value.ensures in
    let whole = refuted_read_whole c.args.schema.now c.args.pair.now c.args.key.now c.args.line c.args.query c.args.request.now c.args.version in
    IfOk-weaker c.line_of.result _ _ (λ s h. h (ap has_float is ∙ whole) ∙ ap json_line is) c.line_of.ensures.text

pub returns-clause-reads_back : goal.returns-clause-reads_back
returns-clause-reads_back c =
    let is = c.in_ok-value.ensures in
    let flat = refuted_read_flat c.args.schema.now c.args.pair.now c.args.key.now c.args.line c.args.query c.args.request.now c.args.version in
    IfOk-weaker c.line_of.result _ _ (λ s h. subst (ReadsBack (string_bytes s)) is (h (subst (λ d. depth d ≤ max_depth) (sym is) flat))) c.line_of.ensures.reads_back
