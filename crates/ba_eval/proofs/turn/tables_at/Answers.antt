use Rattle.std.proofs.Common.{refl}
use Rattle.std.proofs.lemmas.Option.{slice_get_read}
use Rattle.ba_eval.proofs.TurnLemmas.{tables_read}
use Rattle.ba_eval.proofs.turn.tables_at.Goals as goal

pub loop-place-preserved : goal.loop-place-preserved
loop-place-preserved c =
    let at = c.in-Some.ensures.lookup in
    tables_read c.args.from.now c.args.to.now c.loop-place.place-index 0 c.in-Some.table.now c.loop-place-test.true (slice_get_read c.args.from.now _ _ _ refl at.3.0 at.1) _ _ c.in_ok-push-in-Some.ensures.ok c.loop-place.invariant
