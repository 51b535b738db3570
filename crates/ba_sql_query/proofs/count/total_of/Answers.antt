use Rattle.std.proofs.Common.{◌≡◌, ◌&&◌}
use Rattle.ba_sql_query.specs.Parts.{fits_by}
use Rattle.ba_sql_query.proofs.CountLemmas.{fits_else, fits_then, size_goes_on}
use Rattle.ba_sql_query.proofs.count.total_of.Goals as goal
use Rattle.ba_sql_query.proofs.count.total_of.Goals.{then-all_fit, else-all_fit}

pub loop-select-preserved : goal.loop-select-preserved
loop-select-preserved c =
    let fit : c.if-all_fit.all_fit ≡ (c.loop-select.all_fit && fits_by c.select-item.result c.in_ok-count.count) =
    elim c.if-all_fit.branch [
      | then-all_fit w ↦ fits_then c.select-item.result c.in_ok-count.count c.loop-select.all_fit _ c.if-all_fit.all_fit w.if-all_fit.true w.fits-all_fit.ensures w.all_fit-is
      | else-all_fit w ↦ fits_else c.select-item.result c.in_ok-count.count c.loop-select.all_fit c.if-all_fit.all_fit w.if-all_fit.false w.all_fit-is
    ] in
    size_goes_on c.args.selects.now c.loop-select.select-index c.select-item.result c.loop-select.parts _ _ c.loop-select.all_fit c.if-all_fit.all_fit c.in_ok-count.count c.loop-select-test.true c.select-item.is c.loop-select.invariant (rw c.as_slice.ensures at c.in_ok-count.ensures) c.saturating_add.ensures c.min-parts.ensures fit
