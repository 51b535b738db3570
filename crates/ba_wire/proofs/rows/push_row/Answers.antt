use Rattle.std.proofs.Common.{◌≡◌, ◌≤◌, ◌+◌, length, ◌∙◌, [], ◌∷◌, ◌++◌, take, ap, sym, arith, subst}
use Rattle.std.proofs.lemmas.List.{take_all, take_more}
use Rattle.std.proofs.lemmas.Result.{on_ok_weaker}
use Rattle.ba_wire.specs.Printed.{value_json}
use Rattle.ba_wire.proofs.RowLemmas.{all_within, none_within, one_within}
use Rattle.ba_wire.proofs.rows.push_row.Goals as goal

pub loop-value-init : goal.loop-value-init
loop-value-init c = none_within value_json c.args.row.now c.args.out.now c.begin_array.new.self c.begin_array.ensures.room.0 c.in_ok-begin_array.ensures.ok

pub loop-value-preserved : goal.loop-value-preserved
loop-value-preserved c =
    let i = c.loop-value.value-index in
    let xs = c.as_slice-value-items.result.now in
    let more = take_more xs i c.value-item.result (omega arith) ∙ ap (λ x. take i xs ++ x ∷ []) (sym c.value-item.is) in
    one_within value_json c.args.row.now i c.value-item.result c.args.out.now c.loop-value.out c.push_value.new.out c.loop-value.invariant
    (subst (λ ys. take (i + 1) ys ≡ take i ys ++ c.value-item.result ∷ []) c.as_slice-value-items.ensures more) c.in_ok-push_value.ensures

pub returns : goal.returns
returns c =
    let whole = take_all c.loop-value.value-index c.args.row.now (subst (λ ys. length ys ≤ c.loop-value.value-index) c.as_slice-value-items.ensures c.loop-value-test.false) in
    on_ok_weaker c.end_array.result (λ e. all_within value_json c.args.row.now c.loop-value.value-index c.args.out.now c.loop-value.out c.end_array.new.self c.loop-value.invariant whole c.end_array.ensures.room.0 e) c.end_array.ensures.ok
