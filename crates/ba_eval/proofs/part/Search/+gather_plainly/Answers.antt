use Rattle.std.proofs.Common.{map, ap, refl, arith}
use Rattle.std.proofs.lemmas.Grind.{common_steps}
use Rattle.std.proofs.lemmas.Result.{on_ok_weaker}
use Rattle.ba_eval.proofs.SearchLemmas.{adds_last, adds_none, adds_start, gathers_all, gathers_more, pruned, one_chosen}
use Rattle.ba_eval.proofs.part.Search.+gather_plainly.Goals as goal

pub returns-in-None-clause-found : goal.returns-in-None-clause-found
returns-in-None-clause-found t c =
    on_ok_weaker c.add_row.result
    (adds_last c.args.self.now.ctx.now c.args.self.now.rows.now c.args.self.now.part.now _ _ _ _ _ c.in-None.ensures.cases (ap (map (λ row. row.now)) c.deref.ensures.value))
    c.add_row.ensures

pub returns-then-fails-clause-found : goal.returns-then-fails-clause-found
returns-then-fails-clause-found t c =
    let fails = c.fails.ensures.0 c.if-fails.true in
    adds_none _ (pruned _ _ _ _ _ (rw c.deref-in-Some.ensures.value at fails))

pub loop-next-init : goal.loop-next-init
loop-next-init t c = record { chosen = refl; found = adds_start _ _ }

pub loop-next-preserved : goal.loop-next-preserved
loop-next-preserved t c = record {
  chosen = grind (arith, common_steps);
  found = gathers_more _ _ _ _ _ _ _ _ _ c.loop-next-test.true c.next-item.is (one_chosen _ _ _ _ _ c.in_ok-push-in-Some.ensures.items c.loop-next.invariant.chosen) _ _ _ c.loop-next.invariant.found c.in_ok-gather_plainly-in-Some.ensures.found;
}

pub returns-after-loop-next-clause-found : goal.returns-after-loop-next-clause-found
returns-after-loop-next-clause-found t c =
    gathers_all _ _ _ _ _ _ _ _ c.in-Some.ensures.cases.0 c.rows_of_table-next-items.ensures c.loop-next.next-index _ _ c.loop-next-test.false c.loop-next.invariant.found
