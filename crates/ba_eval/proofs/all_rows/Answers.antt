use Rattle.std.proofs.Common.{map, ap, ◌∙◌, subst}
use Rattle.ba_eval.proofs.GatherLemmas.{table_of}
use Rattle.ba_eval.proofs.SearchLemmas.{gathers_part, parts_all}
use Rattle.ba_eval.proofs.StepLemmas.{all_parts, part_read, part_searched}
use Rattle.ba_eval.specs.Visits.{StepsWithin}
use Rattle.ba_eval.proofs.all_rows.Goals as goal

pub loop-part-preserved : goal.loop-part-preserved
loop-part-preserved g c =
    let whole = ap (map table_of) c.as_slice.ensures.value ∙ c.in_ok-places.ensures.tables in
    let none = ap (map (λ row. row.now)) c.new-chosen.ensures.items in
    record {
      found = gathers_part _ _ _ _ _ c.loop-part-test.true c.part-item.is _ whole _ none _ _ _ c.loop-part.invariant.found c.in_ok-gather.ensures.found;
      steps = λ bound. part_searched _ _ _ _ _ c.loop-part-test.true c.part-item.is _ _ (c.loop-part.invariant.steps bound) _ whole _ none _ _ c.in_ok-places.ensures.steps (c.gather.ensures.steps bound);
    }

pub returns-in_err-places-clause-steps : goal.returns-in_err-places-clause-steps
returns-in_err-places-clause-steps g c =
    λ bound.
    subst (λ ps. StepsWithin c.args.ctx.now c.args.rows.now ps c.args.steps.now c.places_of.new.steps) c.as_slice-part-items.ensures
    (part_read _ _ _ _ _ c.loop-part-test.true c.part-item.is _ _ (c.loop-part.invariant.steps bound) _ c.places_of.ensures.steps)

pub returns-in_err-gather-clause-steps : goal.returns-in_err-gather-clause-steps
returns-in_err-gather-clause-steps g c =
    let whole = ap (map table_of) c.as_slice.ensures.value ∙ c.in_ok-places.ensures.tables in
    let none = ap (map (λ row. row.now)) c.new-chosen.ensures.items in
    λ bound.
    subst (λ ps. StepsWithin c.args.ctx.now c.args.rows.now ps c.args.steps.now c.gather.new.steps) c.as_slice-part-items.ensures
    (all_parts _ _ _ _ _ _ (part_searched _ _ _ _ _ c.loop-part-test.true c.part-item.is _ _ (c.loop-part.invariant.steps bound) _ whole _ none _ _ c.in_ok-places.ensures.steps (c.gather.ensures.steps bound)))

pub returns-clause-found : goal.returns-clause-found
returns-clause-found g c = parts_all _ _ _ _ c.as_slice-part-items.ensures c.loop-part.part-index _ _ c.loop-part-test.false c.loop-part.invariant.found

pub returns-clause-steps : goal.returns-clause-steps
returns-clause-steps g c =
    λ bound.
    subst (λ ps. StepsWithin c.args.ctx.now c.args.rows.now ps c.args.steps.now c.loop-part.steps) c.as_slice-part-items.ensures (all_parts _ _ _ _ _ _ (c.loop-part.invariant.steps bound))
