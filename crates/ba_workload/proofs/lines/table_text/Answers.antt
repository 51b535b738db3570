use Rattle.std.proofs.Common.{◌∙◌, ◌++◌, ap, append_assoc, codes, rules, string_bytes}
use Rattle.std.specs.List.{flat_map}
use Rattle.std.proofs.lemmas.List.{take_all}
use Rattle.ba_workload.proofs.LineLemmas.{none_yet, piece_more}
use Rattle.ba_workload.specs.Tables.{line_of, lines_of}
use Rattle.ba_workload.proofs.lines.table_text.Goals as goal

pub loop-row-init : goal.loop-row-init
loop-row-init c = none_yet (c.args.header.now ++ codes "\n") (string_bytes c.push_str.new.self) (c.in_ok-push_str.ensures.bytes ∙ ap (λ t. t ++ codes "\n") c.in_ok-text.ensures.ok)

pub loop-row-preserved : goal.loop-row-preserved
loop-row-preserved c =
    piece_more line_of c.args.rows.now c.loop-row.row-index c.row-item.result (c.args.header.now ++ codes "\n") (string_bytes c.loop-row.text) (string_bytes c.push_line.new.text)
    c.loop-row-test.true c.row-item.is c.loop-row.invariant (c.in_ok-push_line.ensures ∙ ap (λ r. string_bytes c.loop-row.text ++ line_of r) c.as_slice.ensures)

pub returns : goal.returns
returns c =
    c.loop-row.invariant ∙ ap (λ rs. (c.args.header.now ++ codes "\n") ++ flat_map line_of rs) (take_all c.loop-row.row-index c.args.rows.now (search rules))
    ∙ append_assoc c.args.header.now (codes "\n") (lines_of c.args.rows.now)
