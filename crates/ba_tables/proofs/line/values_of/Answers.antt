use Rattle.std.proofs.Common.{arith}
use Rattle.std.proofs.lemmas.Result.{err_from_is_err_and}
use Rattle.csv.specs.Records.{fields_of}
use Rattle.ba_tables.proofs.FrontLemmas.{bad_value_at, last_value_at, next_value_at}
use Rattle.ba_tables.proofs.line.values_of.Goals as goal

pub returns-in_err-value : goal.returns-in_err-value
returns-in_err-value c =
    let p = err_from_is_err_and c.from_residual.result c.from_residual.ensures.1 in
    rw (p.1, p.2)
    (bad_value_at c.in_err-value.field-0.0 c.loop-place.values c.args.row c.loop-place.place c.args.columns.now c.get-column.result.now (fields_of c.args.line.now) c.text_at.result.now _ c.get-column.ensures c.text_at.ensures c.in_err-value.ensures.reads c.loop-place.invariant)

pub loop-place-preserved : goal.loop-place-preserved
loop-place-preserved c =
    rw c.in_ok-push.ensures.ok
    (next_value_at c.loop-place.values c.args.row c.loop-place.place c.args.columns.now c.get-column.result.now (fields_of c.args.line.now) c.text_at.result.now c.in_ok-value.value _ c.get-column.ensures c.text_at.ensures c.in_ok-value.ensures.reads c.loop-place.invariant)

pub returns : goal.returns
returns c = let h = c.in-Ok.ensures in last_value_at c.loop-place.values c.args.row c.loop-place.place c.args.columns.now (fields_of c.args.line.now) _ (omega (arith, h.1, c.len.ensures)) c.loop-place.invariant
