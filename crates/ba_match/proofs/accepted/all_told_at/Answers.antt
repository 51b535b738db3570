use Rattle.ba_match.proofs.NumberLemmas.{found_at, told_more}
use Rattle.ba_match.proofs.accepted.all_told_at.Goals as goal

pub loop-place-preserved : goal.loop-place-preserved
loop-place-preserved c =
    told_more c.args.trace.now c.args.places.now c.loop-place.place-index _ c.loop-place.told c.push.new.self c.in-Some.found
    c.loop-place-test.true c.loop-place.invariant (found_at _ _ _ c.in-Some.is c.in_ok-found.ensures) c.in_ok-push.ensures.ok
