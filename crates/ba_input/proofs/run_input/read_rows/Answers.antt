use Rattle.std.proofs.Common.{◌+◌, drop, take, subst, sym}
use Rattle.ba_plan.specs.Follows.{Follows}
use Rattle.ba_input.specs.Inputs.{RowsOfTables}
use Rattle.ba_input.specs.Reading.{rows_plan}
use Rattle.ba_input.proofs.InputLemmas.{fit_more, rows_step}
use Rattle.ba_input.proofs.run_input.read_rows.Goals as goal

pub loop-table-preserved : goal.loop-table-preserved
loop-table-preserved g c =
    let seen = g.F.Files.seen in record {
      follows = λ t r h.
          c.loop-table.invariant.follows t r
          (rows_step c.args.set.now c.args.tables.now c.loop-table.lists c.loop-table.table-index c.table-item.result (seen c.loop-table.files) (seen c.read_table.new.files) t r c.in_ok-list.list c.loop-table-test.true c.table-item.is c.in_ok-list.ensures.follows
          (subst (λ z. Follows (rows_plan c.args.set.now (drop (c.loop-table.table-index + 1) c.args.tables.now) z) (seen c.read_table.new.files) t r) c.in_ok-push.ensures.ok h));
      fit = subst (RowsOfTables (take (c.loop-table.table-index + 1) c.args.tables.now)) (sym c.in_ok-push.ensures.ok) (fit_more c.args.tables.now c.loop-table.lists c.loop-table.table-index c.table-item.result c.in_ok-list.list c.loop-table-test.true c.table-item.is c.loop-table.invariant.fit c.in_ok-list.ensures.fit);
    }
