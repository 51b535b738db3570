use Rattle.std.proofs.Common.{◌+◌}
use Rattle.ba_lanes.proofs.HistoryLemmas.{can_split, dealt_more, see_loads}
use Rattle.ba_lanes.proofs.MergeLemmas.{lane_low}
use Rattle.ba_lanes.proofs.ShareLemmas.{few_asks}
use Rattle.ba_lanes.proofs.WorkLemmas.{when_ok}
use Rattle.ba_lanes.specs.Serving.{HaveDealt, SeeLoads}
use Rattle.ba_lanes.proofs.work.lane_for.Goals as goal

pub of-share-requires-clause-asks : goal.of-share-requires-clause-asks
of-share-requires-clause-asks c = few_asks c.args.input.now c.requires.input

pub split-requires-clause-can : goal.split-requires-clause-can
split-requires-clause-can c =
    let input = c.args.input.now in
    let is = c.requires.input in
    let share = c.of-share.ensures in
    let dealt = c.requires.dealt in
    can_split input (lane_low input is.workers.0) c.args.number c.requires.below is.workers.1 c.of-share.result.calls c.of-share.result.looks share.calls_are share.looks_are dealt.0 c.args.passes.now dealt.1

pub returns-clause-dealt : goal.returns-clause-dealt
returns-clause-dealt c = λ loads dealt.
    let input = c.args.input.now in
    let is = c.requires.input in
    let share = c.of-share.ensures in
    let low = lane_low input is.workers.0 in
    let calls = c.of-share.result.calls in
    let looks = c.of-share.result.looks in
    let old = c.args.passes.now in
    let new = c.split.new.passes in
    let own = c.in_ok-own.own in
    when_ok c.new.result (λ lane. lane.passes) own c.new.ensures.passes (λ p. HaveDealt input loads (c.args.number + 1) new × SeeLoads loads p) (
      dealt_more input low c.args.number c.requires.below is.workers.1 calls looks share.calls_are share.looks_are loads old dealt new own c.in_ok-own.ensures.split,
      see_loads input low c.args.number c.requires.below is.workers.1 calls looks share.calls_are share.looks_are loads old dealt new own c.in_ok-own.ensures.split,
    )
