use Rattle.std.proofs.Common.{All, subst, sym, take, ◌+◌}
use Rattle.std.specs.List.{AllZip}
use Rattle.std.specs.List.Sorted.{IsStrictlySortedBy}
use Rattle.ba_eval.specs.Search.{SameRows}
use Rattle.ba_model.specs.Order.{row_cmp}
use Rattle.ba_refute.proofs.RisingLemmas.{order_more}
use Rattle.ba_refute.proofs.rising.in_rising_order.Goals as goal

pub loop-table-preserved : goal.loop-table-preserved
loop-table-preserved c =
    let more = order_more c.as_slice-lists.result.now c.loop-table.tables.items c.loop-table.table-index c.table-item.result c.in_ok-sorted.field-0 c.loop-table-test.true c.table-item.is
    c.in_ok-sorted.ensures c.loop-table.invariant.rising c.loop-table.invariant.same in
    record {
      rising = subst (All (IsStrictlySortedBy row_cmp)) (sym c.in_ok-push.ensures.items) more.0;
      same = subst (AllZip SameRows (take (c.loop-table.table-index + 1) c.as_slice-lists.result.now)) (sym c.in_ok-push.ensures.items) more.1;
    }
