use Rattle.std.proofs.Common.{ap, arith, length, take}
use Rattle.std.proofs.lemmas.List.{length-take}
use Rattle.ba_lanes.proofs.ShareLemmas.{begun_short}
use Rattle.ba_lanes.proofs.share.requests_in.Goals as goal

pub overflow_add-count : goal.overflow_add-count
overflow_add-count c =
    let items = c.as_slice-said-items.result.now in
    let so_far = c.loop-said.invariant in
    let below = c.loop-said-test.true in
    let few = c.requires in
    let long = ap length c.as_slice-said-items.ensures in
    omega (arith, so_far, begun_short (take c.loop-said.said-index items), length-take c.loop-said.said-index items, below, few, long)
