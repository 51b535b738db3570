use Rattle.std.proofs.Common.{All, refl, subst}
use Rattle.std.proofs.lemmas.List.{take_all}
use Rattle.std.proofs.lemmas.List.Elements.{All-more}
use Rattle.ba_model.specs.SchemaFaults as faults
use Rattle.ba_model.proofs.check_schema.all_columns_distinct.Goals as goal

pub loop-table-preserved : goal.loop-table-preserved
loop-table-preserved c =
    All-more faults.ColumnsDistinct c.args.tables.now c.loop-table.table-index c.table-item.result c.loop-table-test.true c.loop-table.invariant
    (subst faults.ColumnsDistinct c.table-item.is (c.in_ok-found.ensures.0 c.if-not-found.false))

pub returns : goal.returns
returns c = (
  λ e. subst (All faults.ColumnsDistinct) (take_all c.loop-table.table-index c.args.tables.now c.loop-table-test.false) c.loop-table.invariant,
  λ h. refl,
)
