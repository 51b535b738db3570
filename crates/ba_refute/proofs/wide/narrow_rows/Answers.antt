use Rattle.std.proofs.Common.{All, List, subst}
use Rattle.ba_model.specs.declared.value.Value.{Value}
use Rattle.ba_refute.specs.Counterexamples.{IsStored}
use Rattle.ba_refute.specs.Wide.{Narrows}
use Rattle.ba_refute.proofs.LoopLemmas.{added}
use Rattle.ba_refute.proofs.wide.narrow_rows.Goals as goal

pub loop-row-preserved : goal.loop-row-preserved
loop-row-preserved c =
    rw c.in_ok-push-in-Some.ensures.items
    (added (All IsStored) c.args.rows.now c.loop-row.all.items c.loop-row.row-index c.row-item.result c.in-Some.row c.loop-row-test.true c.row-item.is (subst (Narrows (All IsStored) c.row-item.result) c.in-Some.is (subst (λ (xs : List Value). Narrows (All IsStored) xs c.in_ok-narrow.narrow) c.as_slice.ensures c.in_ok-narrow.ensures)) c.loop-row.invariant)
