use Rattle.std.proofs.Common.{All, subst}
use Rattle.std.proofs.lemmas.List.{take_all}
use Rattle.std.proofs.lemmas.List.Elements.{All-more}
use Rattle.ba_model.specs.Conform.{RowFits}
use Rattle.ba_tables.proofs.UnbrokenLemmas.{fits_seen, is_true}
use Rattle.ba_tables.proofs.conforming.rows_fit.Goals as goal

pub loop-row-preserved : goal.loop-row-preserved
loop-row-preserved c =
    All-more (RowFits c.args.table.now) c.args.rows.now c.loop-row.row-index c.row-item.result c.loop-row-test.true c.loop-row.invariant
    (fits_seen c.values_fit.result c.if-not-values_fit.false c.as_slice.ensures c.as_slice-in-loop-row.ensures c.row-item.is c.values_fit.ensures)

pub returns : goal.returns
returns c = (
  λ e. subst (All (RowFits c.args.table.now)) (take_all c.loop-row.row-index c.args.rows.now c.loop-row-test.false) c.loop-row.invariant,
  λ h. is_true,
)
