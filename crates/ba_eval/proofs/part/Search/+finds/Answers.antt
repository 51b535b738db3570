use Rattle.std.proofs.Common.{refl, arith}
use Rattle.std.proofs.lemmas.Grind.{common_steps}
use Rattle.ba_eval.proofs.SearchLemmas.{pruned, one_chosen, finds_none, finds_here, found_in_rows, none_in_rows}
use Rattle.ba_eval.proofs.part.Search.+finds.Goals as goal

pub returns-then-fails-clause-found : goal.returns-then-fails-clause-found
returns-then-fails-clause-found t c =
    let fails = c.fails.ensures.0 c.if-fails.true in
    (λ e. cc, λ h. absurd (pruned _ _ _ _ _ (rw c.deref-in-Some.ensures.value at fails) _ h))

pub returns-then-found-clause-found : goal.returns-then-found-clause-found
returns-then-found-clause-found t c =
    let here = c.in_ok-found-in-Some.ensures.found.0 c.if-found.true in (
      λ e.
          found_in_rows _ _ _ _ _ _ _ _ c.in-Some.ensures.cases.0 c.rows_of_table-next-items.ensures _
          (finds_here _ _ _ _ _ _ _ _ _ c.loop-next-test.true c.next-item.is (one_chosen _ _ _ _ _ c.in_ok-push-in-Some.ensures.items c.loop-next.invariant.chosen) _ here),
      λ h. refl,
    )

pub loop-next-preserved : goal.loop-next-preserved
loop-next-preserved t c = record {
  chosen = grind (arith, common_steps);
  none = finds_none _ _ _ _ _ _ _ _ _ c.loop-next-test.true c.next-item.is (one_chosen _ _ _ _ _ c.in_ok-push-in-Some.ensures.items c.loop-next.invariant.chosen) _ c.loop-next.invariant.none
      (λ h. let t = c.in_ok-found-in-Some.ensures.found.1 h in cc);
}

pub returns-after-loop-next-clause-found : goal.returns-after-loop-next-clause-found
returns-after-loop-next-clause-found t c = (
  λ e. cc,
  λ h. absurd (none_in_rows _ _ _ _ _ _ _ _ c.in-Some.ensures.cases.0 c.rows_of_table-next-items.ensures c.loop-next.next-index _ c.loop-next-test.false c.loop-next.invariant.none h),
)
