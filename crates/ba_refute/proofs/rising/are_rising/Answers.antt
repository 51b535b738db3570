use Rattle.std.proofs.Common.{All, subst}
use Rattle.std.specs.List.Sorted.{IsStrictlySortedBy}
use Rattle.ba_model.specs.Order.{row_cmp}
use Rattle.ba_refute.proofs.LoopLemmas.{ended, told}
use Rattle.ba_refute.proofs.RisingLemmas.{rising_more}
use Rattle.ba_refute.proofs.rising.are_rising.Goals as goal

pub loop-table-preserved : goal.loop-table-preserved
loop-table-preserved c =
    rising_more c.as_slice-lists.result.now c.loop-table.table-index c.table-item.result c.as_slice.result.now c.loop-table-test.true c.table-item.is c.as_slice.ensures
    (c.is_rising.ensures (told c.if-not-is_rising.false)) c.loop-table.invariant

pub returns : goal.returns
returns c = λ t. record {
  tables = subst (All (IsStrictlySortedBy row_cmp)) c.as_slice-lists.ensures
      ((ended (IsStrictlySortedBy row_cmp) c.as_slice-lists.result.now c.loop-table.table-index c.loop-table-test.false c.loop-table.invariant).0 t);
}
