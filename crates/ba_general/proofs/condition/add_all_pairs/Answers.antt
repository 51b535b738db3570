use Rattle.std.proofs.Common.{◌<◌, ◌≤◌, arith, length, sym}
use Rattle.std.proofs.lemmas.Option.{get_or_from_slice_get}
use Rattle.ba_general.proofs.ConditionLemmas.{pairs_added, pairs_whole}
use Rattle.ba_general.proofs.condition.add_all_pairs.Goals as goal

pub loop-n-preserved : goal.loop-n-preserved
loop-n-preserved c =
    let below : c.loop-n.n < length c.args.operands.now = omega (arith, c.len-n-end.ensures) in
    pairs_added c.args.group c.args.operands.now c.loop-n.n c.get.result.now c.behind.result.now c.args.atoms.now.items
    c.loop-n.atoms.items c.add_pairs.new.atoms.items below (sym (get_or_from_slice_get c.args.operands.now c.loop-n.n c.get.result.now c.get.result.now c.get.ensures))
    c.behind.ensures c.loop-n.invariant c.in_ok-add_pairs.ensures

pub returns : goal.returns
returns c =
    let whole : length c.args.operands.now ≤ c.loop-n.n = omega (arith, c.len-n-end.ensures) in
    pairs_whole c.args.group c.args.operands.now c.loop-n.n c.args.atoms.now.items c.loop-n.atoms.items whole c.loop-n.invariant
