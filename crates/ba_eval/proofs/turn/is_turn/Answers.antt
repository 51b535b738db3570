use Rattle.ba_eval.proofs.TurnLemmas.{leads_read}
use Rattle.ba_eval.proofs.turn.is_turn.Goals as goal

pub loop-place-preserved : goal.loop-place-preserved
loop-place-preserved c = leads_read _ _ _ _ (rw c.if-back-places.false c.loop-place-test.true) c.loop-place.invariant (c.leads_back.ensures c.if-not-leads_back.false)
