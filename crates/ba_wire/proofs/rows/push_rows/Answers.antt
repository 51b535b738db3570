use Rattle.std.proofs.Common.{◌≡◌, ◌≤◌, ◌+◌, length, ◌∙◌, [], ◌∷◌, ◌++◌, take, ap, sym, arith, subst}
use Rattle.std.proofs.lemmas.List.{take_all, take_more}
use Rattle.std.proofs.lemmas.Result.{on_ok_weaker}
use Rattle.ba_wire.specs.Printed.{row_json}
use Rattle.ba_wire.proofs.RowLemmas.{all_within, none_within, one_within}
use Rattle.ba_wire.proofs.rows.push_rows.Goals as goal

pub loop-row-init : goal.loop-row-init
loop-row-init c = none_within row_json c.args.rows.now c.args.out.now c.begin_array.new.self c.begin_array.ensures.room.0 c.in_ok-begin_array.ensures.ok

pub loop-row-preserved : goal.loop-row-preserved
loop-row-preserved c =
    let i = c.loop-row.row-index in
    let xs = c.as_slice-row-items.result.now in
    let more = take_more xs i c.row-item.result (omega arith) ∙ ap (λ x. take i xs ++ x ∷ []) (sym c.row-item.is) in
    one_within row_json c.args.rows.now i c.row-item.result c.args.out.now c.loop-row.out c.push_row.new.out c.loop-row.invariant
    (subst (λ ys. take (i + 1) ys ≡ take i ys ++ c.row-item.result ∷ []) c.as_slice-row-items.ensures more) c.in_ok-push_row.ensures

pub returns : goal.returns
returns c =
    let whole = take_all c.loop-row.row-index c.args.rows.now (subst (λ ys. length ys ≤ c.loop-row.row-index) c.as_slice-row-items.ensures c.loop-row-test.false) in
    on_ok_weaker c.end_array.result (λ e. all_within row_json c.args.rows.now c.loop-row.row-index c.args.out.now c.loop-row.out c.end_array.new.self c.loop-row.invariant whole c.end_array.ensures.room.0 e) c.end_array.ensures.ok
