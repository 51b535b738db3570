use Rattle.ba_eval.proofs.KeptLemmas.{front_more, is_front}
use Rattle.ba_eval.proofs.kept.front_of.Goals as goal

pub loop-column-preserved : goal.loop-column-preserved
loop-column-preserved c =
    let there = c.tie_on.ensures.there in
    let column = c.tie_on.ensures.column in
    front_more _ _ _ c.loop-column-test.true _ _ _ c.in_ok-push-in-Some.ensures.items c.loop-column.invariant (rw c.in-Some.is at there) (rw c.in-Some.is at column)

pub returns-in-None : goal.returns-in-None
returns-in-None c = is_front _ _ _ _ c.loop-column.invariant

pub returns : goal.returns
returns c = is_front _ _ _ _ c.loop-column.invariant
