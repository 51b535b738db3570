use Rattle.std.proofs.Common.{arith}
use Rattle.std.proofs.lemmas.List.{length_push}
use Rattle.ba_classes.proofs.RowLemmas.{raised, raised_here, made_more}
use Rattle.ba_classes.proofs.row.Row.raised.Goals as goal

pub loop-place-preserved : goal.loop-place-preserved
loop-place-preserved c =
    let row = c.args.self.now in
    let left = c.args.left in
    let onward = c.args.onward.now in
    let l = c.loop-place in
    let cells = l.cells.items in
    rw c.in_ok-push.ensures.items (
      omega (arith, length_push cells c.better.result, l.invariant.0),
      made_more (raised row left onward) cells l.place c.better.result l.invariant.0 l.invariant.1
          (raised_here row left onward l.place c.at.result c.at-in-loop-place.result c.joined.result c.better.result c.at.ensures c.at-in-loop-place.ensures c.joined.ensures c.better.ensures),
    )
