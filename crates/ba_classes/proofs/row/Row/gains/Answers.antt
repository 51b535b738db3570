use Rattle.std.proofs.Common.{◌≡◌, get_or, below_more}
use Rattle.ba_classes.specs.declared.best.Best.TheVariants.{Absent}
use Rattle.ba_classes.proofs.RowLemmas.{raised, covered_here}
use Rattle.ba_classes.proofs.row.Row.gains.Goals as goal

pub loop-place-preserved : goal.loop-place-preserved
loop-place-preserved c =
    let row = c.args.self.now in
    let left = c.args.left in
    let onward = c.args.onward.now in
    let l = c.loop-place in
    below_more (λ j. raised row left onward j ≡ get_or row j Absent) l.place l.invariant
    (covered_here row left onward l.place c.at.result c.at-in-loop-place.result c.joined.result c.at.ensures c.at-in-loop-place.ensures c.joined.ensures (c.covers.ensures c.if-not-covers.false))
