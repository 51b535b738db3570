use Rattle.std.proofs.Common.{◌∙◌, ap, arith, length, subst, sym, take}
use Rattle.std.proofs.lemmas.List.{take_all}
use Rattle.ba_lanes.proofs.LineLemmas.{other_taken, own_taken, taken_short}
use Rattle.std.specs.Prelude.{All}
use Rattle.ba_lanes.proofs.ShareLemmas.{AsksFew, few_before, few_here, few_of_lane, share_more, share_small}
use Rattle.ba_lanes.specs.Lanes.{lines_of}
use Rattle.ba_lanes.specs.Legal.{lane_of}
use Rattle.ba_lanes.specs.Serving.{IsShare}
use Rattle.ba_lanes.proofs.share.Share.of.Goals as goal
use Rattle.ba_lanes.proofs.share.Share.of.Goals.{then-lane_of-number, else-lane_of-number}

pub add-requires-clause-lines : goal.add-requires-clause-lines
add-requires-clause-lines c =
    let items = c.as_slice-said-items.result.now in
    let short = taken_short (lane_of c.args.workers) c.args.number items c.loop-said.said-index c.loop-said-test.true in
    let few = c.requires.few in
    let long = ap length c.as_slice-said-items.ensures in
    let so_far = c.loop-said.invariant.lines_are in
    omega (arith, short, few, long, so_far)

pub add-requires-clause-few : goal.add-requires-clause-few
add-requires-clause-few c =
    let all = subst (All AsksFew) (sym c.as_slice-said-items.ensures) c.requires.asks in
    few_here c.as_slice-said-items.result.now c.loop-said.said-index c.said-item.result c.loop-said-test.true c.said-item.is all

pub add-requires-clause-calls : goal.add-requires-clause-calls
add-requires-clause-calls c =
    let items = c.as_slice-said-items.result.now in
    let first = take c.loop-said.said-index items in
    let all = subst (All AsksFew) (sym c.as_slice-said-items.ensures) c.requires.asks in
    share_small (lines_of (lane_of c.args.workers) c.args.number first) c.loop-said.share c.loop-said.invariant
    (few_of_lane (lane_of c.args.workers) c.args.number first (few_before items c.loop-said.said-index all))

pub loop-said-preserved : goal.loop-said-preserved
loop-said-preserved c =
    let items = c.as_slice-said-items.result.now in
    let lane = lane_of c.args.workers in
    let i = c.loop-said.said-index in
    let line = c.said-item.result in
    elim c.if-lane_of-number.branch [
      | then-lane_of-number w ↦ rw w.share-is
          (subst (λ z. IsShare z w.add.new.self) (sym (own_taken lane c.args.number items i line c.loop-said-test.true c.said-item.is (sym c.lane_of.ensures ∙ w.if-lane_of-number.true)))
          (share_more (lines_of lane c.args.number (take i items)) line c.loop-said.share w.add.new.self c.loop-said.invariant w.add.ensures.lines w.add.ensures.calls w.add.ensures.looks))
      | else-lane_of-number w ↦ rw w.share-is
          (subst (λ z. IsShare z c.loop-said.share) (sym (other_taken lane c.args.number items i line c.loop-said-test.true c.said-item.is (λ e. w.if-lane_of-number.false (c.lane_of.ensures ∙ e)))) c.loop-said.invariant)
    ]

pub returns : goal.returns
returns c = subst (λ z. IsShare (lines_of (lane_of c.args.workers) c.args.number z) c.loop-said.share)
    (take_all c.loop-said.said-index c.as_slice-said-items.result.now c.loop-said-test.false ∙ c.as_slice-said-items.ensures) c.loop-said.invariant
