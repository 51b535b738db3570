use Rattle.std.proofs.Common.{◌≡◌, arith, length, refl, subst}
use Rattle.std.specs.Vec.Iter.{into_iter_items}
use Rattle.ba_told.proofs.ListLemmas.{none_misfit, number_low, so_far_done, so_far_more}
use Rattle.ba_told.specs.Places.{IsOfList, IsPlace, IsPut}
use Rattle.ba_told.specs.declared.entries.Place.TheVariants.{Alone, Whole}
use Rattle.ba_told.proofs.entries.by_place.Goals as goal

pub loop-row-preserved-in-Continue-branch-2 : goal.loop-row-preserved-in-Continue-branch-2
loop-row-preserved-in-Continue-branch-2 c =
    let s = c.args.schema.now in
    let context = c.args.context.now in
    let parts = c.args.query.now.parts in
    let row = c.in-Some.row in
    let number = c.in-Alone.number in
    let old = c.loop-row.lists.items in
    let so_far = c.loop-row.invariant.so_far in
    let belongs : IsOfList s context parts number row =
    record { place = Alone number; is_place = subst (λ ps. IsPlace s context row ps (Alone number)) c.as_slice-parts.ensures c.in-Alone.ensures; list = refl } in
    record {
      can = tt;
      finite = tt;
      so_far = so_far_more s context parts c.args.rows (into_iter_items c.loop-row.row-iterator) (into_iter_items c.next.new.self) row old c.put.new.lists.items number so_far c.in-Some.ensures.steps.0 belongs
          (number_low s context parts number (length old) row belongs so_far.placed.many) c.in_ok-put-in-Alone.ensures;
    }

pub loop-row-preserved : goal.loop-row-preserved
loop-row-preserved c =
    let s = c.args.schema.now in
    let context = c.args.context.now in
    let parts = c.args.query.now.parts in
    let row = c.in-Some.row in
    let old = c.loop-row.lists.items in
    let so_far = c.loop-row.invariant.so_far in
    let belongs : IsOfList s context parts (length parts) row =
    record { place = Whole; is_place = subst (λ ps. IsPlace s context row ps Whole) c.as_slice-parts.ensures c.in-Whole.ensures; list = refl } in
    record {
      can = tt;
      finite = tt;
      so_far = so_far_more s context parts c.args.rows (into_iter_items c.loop-row.row-iterator) (into_iter_items c.next.new.self) row old c.put-in-Whole.new.lists.items (length parts) so_far c.in-Some.ensures.steps.0
          belongs (number_low s context parts (length parts) (length old) row belongs so_far.placed.many)
          (subst (λ ps. IsPut (length ps) row old c.put-in-Whole.new.lists.items) c.as_slice-parts.ensures c.in_ok-put-in-Whole.ensures);
    }

pub returns-clause-sorted : goal.returns-clause-sorted
returns-clause-sorted c =
    let left = c.loop-row.row-iterator.rest in
    let none : left.len ≡ 0 = c.in-None.ensures.steps.0 in
    let ok = left.ok.0 in
    so_far_done c.args.schema.now c.args.context.now c.args.query.now.parts c.args.rows left.items c.loop-row.lists.items c.loop-row.invariant.so_far (omega (arith, none, ok))

pub returns-clause-misfit : goal.returns-clause-misfit
returns-clause-misfit c =
    let left = c.loop-row.row-iterator.rest in
    let none : left.len ≡ 0 = c.in-None.ensures.steps.0 in
    let ok = left.ok.0 in
    none_misfit c.args.schema.now c.args.context.now c.args.query.now c.args.rows c.loop-row.lists.items
    (so_far_done c.args.schema.now c.args.context.now c.args.query.now.parts c.args.rows left.items c.loop-row.lists.items c.loop-row.invariant.so_far (omega (arith, none, ok)))
