use Rattle.ba_model.proofs.TakeLemmas.{take_agrees}
use Rattle.ba_model.proofs.same.ListSame.same.Goals as goal

pub loop-i-preserved : goal.loop-i-preserved
loop-i-preserved g c =
    take_agrees _ _ _ _ _ c.get.ensures c.get-in-loop-i.ensures (c.same.ensures.0 c.if-not-same.false) c.loop-i.invariant
