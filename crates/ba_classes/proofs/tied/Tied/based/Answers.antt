use Rattle.std.proofs.Common.{ℤ, rules, arith}
use Rattle.std.specs.Int.{w128}
use Rattle.std.proofs.lemmas.Int.{ints, to_z-of_z}
use mir.Val.{SFits}
use Rattle.ba_classes.proofs.TiedLemmas.{same_fact}
use Rattle.ba_classes.proofs.tied.Tied.based.Goals as goal

pub returns-clause-fact : goal.returns-clause-fact
returns-clause-fact c =
    let above : ℤ = c.base-low.result.1 in
    let beyond : ℤ = c.base-high.result.1 in
    let above_fits : SFits w128 above = search rules in
    let beyond_fits : SFits w128 beyond = search rules in
    same_fact _ _ _ _ _ _ c.base-low.ensures.node
    (omega (arith, ints, to_z-of_z w128 above above_fits, to_z-of_z w128 beyond beyond_fits, to_z-of_z w128 c.args.gap c.ranges.gap, c.base-low.ensures.offset, c.base-high.ensures.offset, c.base-low.ensures.above, c.base-low.ensures.below, c.base-high.ensures.above, c.base-high.ensures.below, c.requires.above, c.requires.below))
    c.base-high.ensures.node
