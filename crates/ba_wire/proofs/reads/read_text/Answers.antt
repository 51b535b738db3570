use Rattle.std.proofs.Common.{◌≤◌, ◌∙◌, ap, subst, sym}
use Rattle.std.proofs.lemmas.Result.{IfOk-weaker}
use Rattle.std.specs.Prelude.{string_bytes}
use Rattle.serde_json.specs.Data.{depth}
use Rattle.serde_json.specs.Read.{max_depth}
use Rattle.serde_json.specs.Written.{has_float}
use Rattle.ba_wire.specs.Printed.{ReadsBack, json_line}
use Rattle.ba_wire.proofs.ReadLemmas.{read_flat, read_whole}
use Rattle.ba_wire.proofs.reads.read_text.Goals as goal

pub returns-clause-text : goal.returns-clause-text
returns-clause-text c =
    let is = c.in_ok-object.ensures in
    let whole = read_whole c.args.by.now c.args.key.now c.args.line c.args.request.now c.args.version in
    IfOk-weaker c.line.result _ _ (λ s h. h (ap has_float is ∙ whole) ∙ ap json_line is) c.line.ensures.text

pub returns-clause-reads_back : goal.returns-clause-reads_back
returns-clause-reads_back c =
    let is = c.in_ok-object.ensures in
    let flat = read_flat c.args.by.now c.args.key.now c.args.line c.args.request.now c.args.version in
    IfOk-weaker c.line.result _ _ (λ s h. subst (ReadsBack (string_bytes s)) is (h (subst (λ d. depth d ≤ max_depth) (sym is) flat))) c.line.ensures.reads_back
