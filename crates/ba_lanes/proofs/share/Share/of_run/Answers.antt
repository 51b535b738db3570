use Rattle.std.proofs.Common.{arith}
use Rattle.ba_lanes.proofs.ShareLemmas.{few_asks, share_small}
use Rattle.ba_lanes.proofs.share.Share.of_run.Goals as goal

pub whole-share-requires-clause-asks : goal.whole-share-requires-clause-asks
whole-share-requires-clause-asks c = few_asks c.args.input.now c.requires.input

pub overflow_add-share : goal.overflow_add-share
overflow_add-share c =
    let is = c.requires.input in
    let share = c.whole-share.ensures in
    let small = (share_small c.args.input.now.script.entries c.whole-share.result share (few_asks c.args.input.now is)).1 in
    let lines = share.lines_are in
    let few = is.script.few_entries in
    let loaded = is.few_loaded in
    omega (arith, small, lines, few, loaded)
