use Rattle.std.proofs.Common.{refl}
use Rattle.ba_eval.proofs.TurnLemmas.{same_answers, same_more}
use Rattle.ba_eval.proofs.turn.turned.Goals as goal

pub loop-part-preserved : goal.loop-part-preserved
loop-part-preserved c =
    same_more _ _ _ c.loop-part-test.true c.part-item.is _ _ _ c.in_ok-push.ensures.ok c.loop-part.invariant c.in_ok-other.ensures

pub returns : goal.returns
returns c = same_answers _ _ _ _ _ c.as_slice-part-items.ensures refl c.loop-part-test.false c.loop-part.invariant
