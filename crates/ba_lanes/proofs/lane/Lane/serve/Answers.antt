use Rattle.std.proofs.Common.{◌∙◌, ◌≤◌, ap, arith, length, refl, subst, sym}
use Rattle.std.specs.Prelude.{Vec, vec_capacity}
use Rattle.ba_lanes.proofs.ServeLemmas.{after_more, after_none, after_skipped, can_take, entry_room, has_all, place_room}
use Rattle.ba_lanes.specs.Legal.{contexts_of}
use Rattle.ba_lanes.specs.Serving.{CanServe, lines_in}
use Rattle.ba_lanes.proofs.lane.Lane.serve.Goals as goal
use Rattle.ba_lanes.proofs.lane.Lane.serve.Goals.{then-lane_of-number, else-lane_of-number}

pub loop-said-init : goal.loop-said-init
loop-said-init g c =
    let lane = c.args.self.now in
    let same = sym c.as_slice-said-items.ensures in
    let input = c.args.input.now in
    let k = c.args.number in
    after_none input c.args.service.now k lane c.as_slice-said-items.result.now c.requires.of (subst (λ z. CanServe (lines_in input k z) lane.passes) same c.requires.can) c.requires.requests.0
    (subst (λ z. length (contexts_of z) ≤ vec_capacity lane.requests) same c.requires.requests.1) c.requires.entries.0 (subst (λ z. length (lines_in input k z) ≤ vec_capacity lane.entries) same c.requires.entries.1)

pub line-entry-requires-clause-can : goal.line-entry-requires-clause-can
line-entry-requires-clause-can g c =
    can_take c.args.input.now c.args.service.now c.args.self.now.passes c.args.number c.as_slice-said-items.result.now c.as_slice-said-items.ensures c.requires.input c.loop-said.said-index c.said-item.result
    c.loop-said-test.true c.said-item.is c.loop-said.self c.loop-said.invariant (sym c.lane_of.ensures ∙ c.if-lane_of-number.true)

pub push_reserved-requires : goal.push_reserved-requires
push_reserved-requires g c =
    let room = entry_room c.args.input.now c.args.service.now c.args.self.now.passes c.args.number c.as_slice-said-items.result.now c.as_slice-said-items.ensures c.requires.input c.loop-said.said-index c.said-item.result
    c.loop-said-test.true c.said-item.is c.loop-said.self c.loop-said.invariant (sym c.lane_of.ensures ∙ c.if-lane_of-number.true) in
    let same = c.line-entry.ensures.entries in
    let ok = c.line-entry.new.self.entries.ok.0 in
    omega (arith, room, ok, ap vec_capacity same, ap (λ (v : Vec _ _). length v.items) same)

pub pass_over-requires : goal.pass_over-requires
pass_over-requires g c = record {
  room = place_room c.args.input.now c.args.service.now c.args.self.now.passes c.args.number c.as_slice-said-items.result.now c.as_slice-said-items.ensures c.requires.input c.loop-said.said-index c.said-item.result
      c.loop-said-test.true c.said-item.is c.loop-said.self c.loop-said.invariant (λ e. c.if-lane_of-number.false (c.lane_of.ensures ∙ e));
}

pub loop-said-preserved : goal.loop-said-preserved
loop-said-preserved g c =
    let input = c.args.input.now in
    let service = c.args.service.now in
    let items = c.as_slice-said-items.result.now in
    elim c.if-lane_of-number.branch [
      | then-lane_of-number w ↦ rw w.self-is
          (after_more input service c.args.self.now.passes c.args.number items c.as_slice-said-items.ensures c.requires.input c.loop-said.said-index c.said-item.result c.loop-said-test.true c.said-item.is
          c.loop-said.self c.loop-said.invariant (sym c.lane_of.ensures ∙ w.if-lane_of-number.true) w.line-entry.result w.line-entry.new.self _ w.line-entry.ensures refl refl w.push_reserved.ensures.items
          w.push_reserved.ensures.capacity)
      | else-lane_of-number w ↦ rw w.self-is
          (after_skipped input service c.args.self.now.passes c.args.number items c.as_slice-said-items.ensures c.requires.input c.loop-said.said-index c.said-item.result c.loop-said-test.true c.said-item.is
          c.loop-said.self c.loop-said.invariant (λ e. w.if-lane_of-number.false (c.lane_of.ensures ∙ e)) w.pass_over.new.self w.pass_over.ensures)
    ]

pub returns : goal.returns
returns g c =
    has_all c.args.input.now c.args.service.now c.args.self.now.passes c.args.number c.as_slice-said-items.result.now c.as_slice-said-items.ensures c.loop-said.said-index c.loop-said-test.false c.loop-said.self
    c.loop-said.invariant
