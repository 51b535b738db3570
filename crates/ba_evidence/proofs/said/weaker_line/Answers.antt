use Rattle.std.proofs.Common.{◌≤◌, ◌∙◌, ap, subst, sym}
use Rattle.std.proofs.lemmas.Result.{IfOk-weaker}
use Rattle.std.specs.Prelude.{string_bytes}
use Rattle.serde_json.specs.Data.{depth}
use Rattle.serde_json.specs.Read.{max_depth}
use Rattle.serde_json.specs.Written.{has_float}
use Rattle.ba_wire.specs.Printed.{ReadsBack, json_line}
use Rattle.ba_evidence.specs.Said.{basis}
use Rattle.ba_evidence.proofs.SaidLemmas.{weaker_flat, weaker_whole}
use Rattle.ba_evidence.proofs.said.weaker_line.Goals as goal

pub returns-clause-text : goal.returns-clause-text
returns-clause-text c =
    let is = c.in_ok-value.ensures in
    let whole = weaker_whole c.args.params.now c.args.by (basis c.args.it.now) c.args.line c.args.request.now c.args.send.now in
    IfOk-weaker c.line_of.result _ _ (λ s h. h (ap has_float is ∙ whole) ∙ ap json_line is) c.line_of.ensures.text

pub returns-clause-reads_back : goal.returns-clause-reads_back
returns-clause-reads_back c =
    let is = c.in_ok-value.ensures in
    let flat = weaker_flat c.args.params.now c.args.by (basis c.args.it.now) c.args.line c.args.request.now c.args.send.now in
    IfOk-weaker c.line_of.result _ _ (λ s h. subst (ReadsBack (string_bytes s)) is (h (subst (λ d. depth d ≤ max_depth) (sym is) flat))) c.line_of.ensures.reads_back
