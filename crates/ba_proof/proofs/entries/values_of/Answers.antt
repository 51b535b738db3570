use Rattle.std.proofs.lemmas.Result.{err_from_is_err_and}
use Rattle.serde_json.specs.View.{view}
use Rattle.ba_proof.proofs.RowLemmas.{row_fails, row_goes_on}
use Rattle.ba_proof.proofs.entries.values_of.Goals as goal

pub returns-in_err-value : goal.returns-in_err-value
returns-in_err-value c =
    let p = err_from_is_err_and c.from_residual.result c.from_residual.ensures.1 in
    rw (p.1, p.2) (row_fails view c.args.policy.now.schema c.args.policy.now.params c.args.part.now c.args.items.now c.loop-item.item-index c.loop-item.row c.len.result c.item-item.result c.in_err-value.field-0.0
    c.loop-item.invariant c.len.ensures c.loop-item-test.true c.item-item.is c.in_err-value.ensures)

pub loop-item-preserved : goal.loop-item-preserved
loop-item-preserved c =
    row_goes_on view c.args.policy.now.schema c.args.policy.now.params c.args.part.now c.args.items.now c.loop-item.item-index c.loop-item.row _ c.len.result c.item-item.result c.in_ok-value.value
    c.loop-item.invariant c.len.ensures c.loop-item-test.true c.item-item.is c.in_ok-value.ensures c.in_ok-push.ensures.ok
