use Rattle.std.proofs.Common.{All, List, subst}
use Rattle.ba_model.specs.declared.value.Value.{Value}
use Rattle.ba_refute.specs.Counterexamples.{IsStored}
use Rattle.ba_refute.specs.Wide.{Narrows}
use Rattle.ba_refute.proofs.LoopLemmas.{added}
use Rattle.ba_refute.proofs.wide.narrow_tables.Goals as goal

pub loop-rows-preserved : goal.loop-rows-preserved
loop-rows-preserved c =
    rw c.in_ok-push-in-Some.ensures.items
    (added (All (All IsStored)) c.args.tables.now c.loop-rows.all.items c.loop-rows.rows-index c.rows-item.result c.in-Some.rows c.loop-rows-test.true c.rows-item.is (subst (Narrows (All (All IsStored)) c.rows-item.result) c.in-Some.is (subst (λ (xs : List (List Value)). Narrows (All (All IsStored)) xs c.in_ok-narrow.narrow) c.as_slice.ensures c.in_ok-narrow.ensures)) c.loop-rows.invariant)
