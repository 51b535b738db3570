use Rattle.std.proofs.Common.{◌≤◌, ◌∙◌, ap, subst, sym}
use Rattle.std.proofs.lemmas.Result.{IfOk-weaker}
use Rattle.std.specs.Prelude.{string_bytes}
use Rattle.serde_json.specs.Data.{depth}
use Rattle.serde_json.specs.Read.{max_depth}
use Rattle.serde_json.specs.Written.{has_float}
use Rattle.ba_wire.specs.Printed.{ReadsBack, json_line}
use Rattle.ba_evidence.proofs.SaidLemmas.{read_said_flat, read_said_whole, told_said}
use Rattle.ba_evidence.proofs.said_reads.allowed_read_line.Goals as goal

pub returns-clause-text : goal.returns-clause-text
returns-clause-text c =
    IfOk-weaker c.line_of.result _ _
    (λ s h params list tells.
    let is = c.in_ok-value.ensures ∙ told_said params list c.args.grounds c.args.key.now c.args.line c.args.request.now tells in
    let whole = read_said_whole params list c.args.key.now c.args.line c.args.request.now in
    h (ap has_float is ∙ whole) ∙ ap json_line is)
    c.line_of.ensures.text

pub returns-clause-reads_back : goal.returns-clause-reads_back
returns-clause-reads_back c =
    IfOk-weaker c.line_of.result _ _
    (λ s h params list tells.
    let is = c.in_ok-value.ensures ∙ told_said params list c.args.grounds c.args.key.now c.args.line c.args.request.now tells in
    let flat = read_said_flat params list c.args.key.now c.args.line c.args.request.now in
    subst (ReadsBack (string_bytes s)) is (h (subst (λ d. depth d ≤ max_depth) (sym is) flat)))
    c.line_of.ensures.reads_back
