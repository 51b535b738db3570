use Rattle.std.proofs.Common.{subst}
use Rattle.ba_refute.specs.Counterexamples.{IsStored}
use Rattle.ba_refute.specs.Wide.{Narrows}
use Rattle.ba_refute.proofs.LoopLemmas.{added}
use Rattle.ba_refute.proofs.wide.narrow_row.Goals as goal

pub loop-value-preserved : goal.loop-value-preserved
loop-value-preserved c =
    rw c.in_ok-push-in-Some.ensures.items
    (added IsStored c.args.values.now c.loop-value.row.items c.loop-value.value-index c.value-item.result c.in-Some.value c.loop-value-test.true c.value-item.is (subst (Narrows IsStored c.value-item.result) c.in-Some.is c.in_ok-narrow.ensures) c.loop-value.invariant)
