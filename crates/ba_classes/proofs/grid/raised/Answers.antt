use Rattle.std.proofs.Common.{◌≡◌, ◌<◌, [], List, length, get_or, nat_eq, arith, ap, ◌∙◌}
use Rattle.std.proofs.lemmas.List.{get_or_default, length_push}
use Rattle.ba_classes.specs.Best.{joined, or_nothing}
use Rattle.ba_classes.specs.declared.best.Best.{Best}
use Rattle.ba_classes.specs.declared.best.Best.TheVariants.{Absent}
use Rattle.ba_classes.proofs.GridLemmas.{coming, raised_more, raised_all_cells}
use Rattle.ba_classes.proofs.grid.raised.Goals as goal

pub loop-place-preserved : goal.loop-place-preserved
loop-place-preserved c =
    let start = c.args.rows.now in
    let l = c.loop-place in
    let others = l.others.items in
    let row = c.in_ok-raised_row.field-0 in
    let old = c.index-rows-place.result in
    let within : l.place < length start = omega arith in
    let item : old ≡ get_or start l.place [] = c.index-rows-place.is ∙ get_or_default start l.place old [] within in
    let comes : c.joined-comes.result ≡ coming start c.args.low c.args.by c.args.onward.now l.place =
    c.joined-comes.ensures
    ∙ ap (λ b. joined b c.args.by) (c.or_nothing.ensures ∙ ap (λ b. or_nothing (nat_eq l.place c.args.low) b) (c.at.ensures ∙ ap (λ (r : List Best). get_or r c.args.low Absent) (c.deref.ensures ∙ item))) in
    rw c.in_ok-push.ensures.items (
      omega (arith, length_push others row, l.invariant.0),
      raised_more start c.args.low c.args.by c.args.onward.now others l.place row old c.joined-comes.result l.invariant.0 l.invariant.1 item comes c.in_ok-raised_row.ensures,
    )

pub returns-clause-cells : goal.returns-clause-cells
returns-clause-cells c =
    raised_all_cells c.args.rows.now c.args.low c.args.by c.args.onward.now c.loop-place.others.items c.loop-place.place c.requires.low (omega (arith, c.loop-place.invariant.0)) c.loop-place-test.false c.loop-place.invariant.1
