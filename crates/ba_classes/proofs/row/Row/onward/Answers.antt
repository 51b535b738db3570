use Rattle.std.proofs.Common.{nat_eq, arith, ap, ◌∙◌}
use Rattle.std.proofs.lemmas.List.{length_push, get_or_past}
use Rattle.ba_classes.specs.Best.{or_nothing}
use Rattle.ba_classes.specs.declared.best.Best.TheVariants.{Absent}
use Rattle.ba_classes.proofs.RowLemmas.{made_more, onward_cell, onward_below}
use Rattle.ba_classes.proofs.row.Row.onward.Goals as goal

pub loop-other-preserved : goal.loop-other-preserved
loop-other-preserved c =
    let l = c.loop-other in
    let cells = l.cells.items in
    rw c.in_ok-push.ensures.items (
      omega (arith, length_push cells c.or_nothing.result, l.invariant.0),
      made_more (onward_cell c.args.self.now c.args.place c.args.side) cells l.other c.or_nothing.result l.invariant.0 l.invariant.1 (c.or_nothing.ensures ∙ ap (or_nothing (nat_eq c.args.place l.other)) c.at.ensures),
    )

pub returns-clause-below : goal.returns-clause-below
returns-clause-below c =
    let l = c.loop-other in
    onward_below c.args.self.now c.args.place c.args.side l.cells.items l.other l.invariant.0 (omega arith) (omega arith) l.invariant.1

pub returns-clause-past : goal.returns-clause-past
returns-clause-past c =
    let l = c.loop-other in
    λ j past. get_or_past l.cells.items j Absent (omega (arith, l.invariant.0))
