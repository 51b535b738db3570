use Rattle.std.proofs.Common.{map, ap, refl, arith}
use Rattle.std.proofs.lemmas.Grind.{common_steps}
use Rattle.std.proofs.lemmas.Result.{on_ok_weaker}
use Rattle.ba_eval.proofs.SearchLemmas.{adds_last, adds_none, adds_start, pruned, one_chosen}
use Rattle.ba_eval.proofs.GatherLemmas.{item_of, numbers_more, gathers_all, no_tables, row_there}
use Rattle.ba_eval.proofs.VisitLemmas.{all_visited, none_visited, none_visiting, steps_more}
use Rattle.ba_eval.proofs.part.Search.+gather.Goals as goal

pub returns-in-None-clause-found : goal.returns-in-None-clause-found
returns-in-None-clause-found g t c =
    on_ok_weaker c.add_row.result
    (adds_last c.args.self.now.ctx.now c.args.self.now.rows.now c.args.self.now.part.now _ _ _ _ _ (no_tables _ c.in-None.ensures.cases) (ap (map (λ row. row.now)) c.deref.ensures.value))
    c.add_row.ensures

pub returns-then-fails-clause-found : goal.returns-then-fails-clause-found
returns-then-fails-clause-found g t c =
    let fails = c.fails.ensures.0 c.if-fails.true in
    adds_none _ (pruned _ _ _ _ _ (rw c.deref-in-Some.ensures.value at fails))

pub read_row-requires : goal.read_row-requires
read_row-requires g t c =
    let candidates = c.in_ok-numbers-in-Some.ensures in
    row_there _ _ _ _ _ _ _ _ c.in-Some.ensures.cases.0 c.requires _ (rw (c.deref-in-Some-2.ensures.value, ← c.as_slice-number-items.ensures.value) at candidates) _ _ c.loop-number-test.true (item_of _ _ _ c.loop-number-test.true refl)

pub loop-number-init : goal.loop-number-init
loop-number-init g t c = record {
  chosen = refl;
  found = adds_start _ _;
  steps = λ bound before at. none_visiting _ _ _ before _ _;
}

pub loop-number-preserved : goal.loop-number-preserved
loop-number-preserved g t c =
    let candidates = c.in_ok-numbers-in-Some.ensures in
    let deeper = one_chosen _ _ _ _ _ c.in_ok-push-in-Some.ensures.items c.loop-number.invariant.chosen in
    record {
      chosen = grind (arith, common_steps);
      found = numbers_more _ _ _ _ _ _ _ _ _ c.loop-number-test.true (item_of _ _ _ c.loop-number-test.true refl) _ _ _ _ _ c.read_row.ensures.row deeper c.loop-number.invariant.found c.in_ok-gather-in-Some.ensures.found;
      steps = λ bound before at.
          steps_more _ bound _ _ _ _ _ _ _ c.in-Some.ensures.cases.0 c.requires _ (rw (c.deref-in-Some-2.ensures.value, ← c.as_slice-number-items.ensures.value) at candidates) before at
          _ _ c.loop-number-test.true (item_of _ _ _ c.loop-number-test.true refl) _ c.read_row.ensures.row _ deeper _ _ _ _ c.read_row.ensures.steps (c.loop-number.invariant.steps bound before at) (c.gather.ensures.steps bound);
    }

pub returns-after-loop-number-clause-found : goal.returns-after-loop-number-clause-found
returns-after-loop-number-clause-found g t c =
    let candidates = c.in_ok-numbers-in-Some.ensures in
    gathers_all _ _ _ _ _ _ _ _ c.in-Some.ensures.cases.0 c.requires _ (rw (c.deref-in-Some-2.ensures.value, ← c.as_slice-number-items.ensures.value) at candidates) c.loop-number.number-index _ _ c.loop-number-test.false c.loop-number.invariant.found

pub returns-after-loop-number-clause-steps : goal.returns-after-loop-number-clause-steps
returns-after-loop-number-clause-steps g t c = λ bound before at. all_visited _ _ _ before _ _ _ (c.loop-number.invariant.steps bound before at)

pub returns-in_err-push-in-Some-clause-steps : goal.returns-in_err-push-in-Some-clause-steps
returns-in_err-push-in-Some-clause-steps g t c =
    let candidates = c.in_ok-numbers-in-Some.ensures in
    λ bound before at.
    all_visited _ _ _ before _ _ _
    (steps_more _ bound _ _ _ _ _ _ _ c.in-Some.ensures.cases.0 c.requires _ (rw (c.deref-in-Some-2.ensures.value, ← c.as_slice-number-items.ensures.value) at candidates) before at
    _ _ c.loop-number-test.true (item_of _ _ _ c.loop-number-test.true refl) _ c.read_row.ensures.row _ refl _ _ _ _ c.read_row.ensures.steps (c.loop-number.invariant.steps bound before at) (λ positions r. none_visited _ _ _ positions _))

pub returns-in_err-gather-in-Some-clause-steps : goal.returns-in_err-gather-in-Some-clause-steps
returns-in_err-gather-in-Some-clause-steps g t c =
    let candidates = c.in_ok-numbers-in-Some.ensures in
    let deeper = one_chosen _ _ _ _ _ c.in_ok-push-in-Some.ensures.items c.loop-number.invariant.chosen in
    λ bound before at.
    all_visited _ _ _ before _ _ _
    (steps_more _ bound _ _ _ _ _ _ _ c.in-Some.ensures.cases.0 c.requires _ (rw (c.deref-in-Some-2.ensures.value, ← c.as_slice-number-items.ensures.value) at candidates) before at
    _ _ c.loop-number-test.true (item_of _ _ _ c.loop-number-test.true refl) _ c.read_row.ensures.row _ deeper _ _ _ _ c.read_row.ensures.steps (c.loop-number.invariant.steps bound before at) (c.gather.ensures.steps bound))
