use Rattle.std.proofs.Common.{subst, sym}
use Rattle.ba_refute.specs.Images.{AreFactRows}
use Rattle.ba_refute.proofs.RowLemmas.{tables_more}
use Rattle.ba_refute.proofs.rows.side_of.Goals as goal

pub loop-table-preserved : goal.loop-table-preserved
loop-table-preserved c =
    let ctx = c.args.ctx.now in
    let values = c.args.values.now in
    let facts = c.args.facts.now in
    let table = c.loop-table.table in
    rw c.in_ok-push.ensures.items
    (tables_more ctx values facts table c.args.side c.loop-table.all.items c.from_vec.result c.loop-table.invariant
    (subst (AreFactRows ctx values facts c.args.side table) (sym c.from_vec.ensures) c.in_ok-rows.ensures))
