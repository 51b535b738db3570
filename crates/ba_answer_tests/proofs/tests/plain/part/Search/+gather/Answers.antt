use Rattle.std.proofs.Common.{map, ap, arith}
use Rattle.std.proofs.lemmas.Grind.{common_steps}
use Rattle.std.proofs.lemmas.Result.{on_ok_weaker}
use Rattle.ba_answer_tests.proofs.PlainSearchLemmas.{adds_last, one_chosen, gathers_more, gathers_all}
use Rattle.ba_answer_tests.proofs.tests.plain.part.Search.+gather.Goals as goal

pub returns-in-None-clause-found : goal.returns-in-None-clause-found
returns-in-None-clause-found t c =
    on_ok_weaker c.add_row.result
    (adds_last c.args.self.now.ctx.now c.args.self.now.rows.now c.args.self.now.part.now _ _ _ _ _ c.in-None.ensures.cases (ap (map (λ row. row.now)) c.deref.ensures.value))
    c.add_row.ensures

pub loop-row-preserved : goal.loop-row-preserved
loop-row-preserved t c = record {
  chosen = grind (arith, common_steps);
  found = gathers_more _ _ _ _ _ _ _ _ _ c.loop-row-test.true c.row-item.is (one_chosen _ _ _ _ _ c.in_ok-push-in-Some.ensures.items c.loop-row.invariant.chosen) _ _ _ c.loop-row.invariant.found c.in_ok-gather-in-Some.ensures.found;
}

pub returns-after-loop-row-clause-found : goal.returns-after-loop-row-clause-found
returns-after-loop-row-clause-found t c =
    gathers_all _ _ _ _ _ _ _ _ c.in-Some.ensures.cases.0 c.rows_of_table-row-items.ensures c.loop-row.row-index _ _ c.loop-row-test.false c.loop-row.invariant.found
