use Rattle.std.proofs.Common.{◌≡◌, ◌+◌, ◌<◌, ◌≤◌, ◌^◌, arith, length, subst, sym}
use Rattle.ba_model.specs.Limits.{most_parts}
use Rattle.ba_model.specs.declared.query.Query.{Query}
use Rattle.ba_parts.specs.Recording.{AreEntries}
use Rattle.ba_told.proofs.EntryLemmas.{all_entries, are_entries, place_fits}
use Rattle.ba_told.specs.Places.{AreByPlace}
use Rattle.ba_told.proofs.entries.entries_of.Goals as goal

pub overflow_add-place : goal.overflow_add-place
overflow_add-place c =
    let lists = c.in_ok-lists.lists in
    let many : length lists.items ≡ length c.deref.result.now.parts + 1 = c.in_ok-lists.ensures.sorted.many in
    let few = subst (λ (q : Query). length q.parts ≤ most_parts) (sym c.deref.ensures) c.requires in
    let low : c.loop-rows.place + 1 < 2 ^ 64 =
    place_fits c.loop-rows.place c.loop-rows.rows-iterator.rest.items c.next.new.self.rest.items c.into_iter-rows-iterator.result.rest.items lists.items c.in-Some.rows c.loop-rows.invariant.count
    c.in-Some.ensures.steps.0 c.into_iter-rows-iterator.ensures.into_iter_gives.0 (omega (arith, many, few)) in
    omega (arith, low)

pub returns-clause-entries : goal.returns-clause-entries
returns-clause-entries c =
    let q = c.args.query.now in
    let lists = c.in_ok-lists.lists.items in
    let left = c.loop-rows.rows-iterator.rest in
    let none : left.len ≡ 0 = c.in-None.ensures.steps.0 in
    let ok = left.ok.0 in
    let same = all_entries q c.loop-rows.place c.loop-rows.entries.items left.items c.into_iter-rows-iterator.result.rest.items lists c.loop-rows.invariant.all (omega (arith, none, ok))
    c.into_iter-rows-iterator.ensures.into_iter_gives.0 in
    subst (AreEntries c.args.schema.now c.args.context.now q c.args.rows) (sym same)
    (are_entries c.args.schema.now c.args.context.now q c.args.rows lists
    (subst (λ (it : Query). AreByPlace c.args.schema.now c.args.context.now it.parts c.args.rows lists) c.deref.ensures c.in_ok-lists.ensures.sorted))
