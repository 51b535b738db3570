use Rattle.std.proofs.Common.{◌≡◌, ◌∙◌, ap, arith, get_or, length, subst, sym}
use Rattle.std.specs.Prelude.{Vec, slice_set, vec_capacity}
use Rattle.std.proofs.lemmas.Bool.{false≢true}
use Rattle.ba_lanes.proofs.MergeLemmas.{lane_low}
use Rattle.ba_lanes.proofs.WorkLemmas.{Merging, get_any, merging_all, merging_more, merging_none, some_left}
use Rattle.ba_lanes.specs.Lanes.{of_lane}
use Rattle.ba_lanes.specs.Legal.{lane_of}
use Rattle.ba_lanes.specs.Serving.{lines_in}
use Rattle.ba_lanes.proofs.work.merge.Goals as goal
use Rattle.ba_lanes.proofs.work.merge.Goals.{in-Some, in_default}

pub loop-said-init : goal.loop-said-init
loop-said-init c =
    let input = c.args.input.now in
    let queues = c.args.queues.items in
    let same = c.as_slice-said-items.ensures in
    let lines = c.as_slice-said-items.result.now in
    let long = c.len.ensures in
    let room = c.in_ok-entries.ensures.capacity in record {
      merging = subst (λ z. Merging (λ it. it.items) (lane_of input.workers) input.workers lines queues 0 queues z) (sym c.in_ok-entries.ensures.items)
          (merging_none (λ it. it.items) (lane_of input.workers) input.workers lines queues c.requires.many (λ k d low. c.requires.long k d low ∙ ap (λ z. length (lines_in input k z)) (sym same)));
      room = omega (arith, long, room, ap length same);
    }

pub loop-said-preserved : goal.loop-said-preserved
loop-said-preserved c =
    let input = c.args.input.now in
    let lines = c.as_slice-said-items.result.now in
    let queues = c.loop-said.queues.items in
    let line = c.said-item.result in
    let so_far = c.loop-said.invariant in
    let low = lane_low input c.requires.some line in
    let old = c.index_mut.result.now in
    let new = c.pop_front.new.self in
    let lane_is = c.lane_of-lane.ensures in
    let many = so_far.merging.as_many in
    let here : old ≡ get_or queues (lane_of input.workers line) old = c.index_mut.ensures.value ∙ ap (λ k. get_or queues k old) lane_is in
    elim c.match-pop_front.branch [
      | in-Some w ↦ let room = so_far.room in let same = w.push_reserved.ensures.capacity in record {
        merging =
            merging_more (λ it. it.items) (lane_of input.workers) input.workers lines c.args.queues.items c.loop-said.said-index line c.loop-said-test.true c.said-item.is queues c.loop-said.entries.items so_far.merging low
            old new w.in-Some.entry (slice_set queues c.lane_of-lane.result new) c.match-pop_front.entries.items
            (λ d. here ∙ get_any queues (lane_of input.workers line) old d (omega (arith, low, many))) w.in-Some.ensures.items (ap (λ k. slice_set queues k new) lane_is)
            (ap (λ (v : Vec _ _). v.items) w.entries-is ∙ w.push_reserved.ensures.items);
        room = omega (arith, room, same, ap vec_capacity w.entries-is);
      }
      | in_default w ↦
          let some = some_left (λ it. it.items) (lane_of input.workers) input.workers lines c.args.queues.items c.loop-said.said-index line c.loop-said-test.true c.said-item.is queues c.loop-said.entries.items
          so_far.merging low old in
          let ok = old.ok.0 in
          absurd (false≢true (w.in_default.ensures.variant.1 (omega (arith, some, ok, ap (λ it. length it.items) here))))
    ]

pub returns : goal.returns
returns c = λ d.
    let input = c.args.input.now in
    let same = c.as_slice-said-items.ensures in
    let all = merging_all (λ it. it.items) (lane_of input.workers) input.workers c.as_slice-said-items.result.now c.args.queues.items c.loop-said.said-index c.loop-said.queues.items c.loop-said.entries.items
    c.loop-said-test.false c.loop-said.invariant.merging in record {
      many = all.0 ∙ ap length same;
      each = λ k low. sym (ap (λ z. of_lane (lane_of input.workers) k z c.loop-said.entries.items) same) ∙ all.1 k d low;
    }
