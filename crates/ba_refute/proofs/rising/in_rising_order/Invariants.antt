use Rattle.std.proofs.Common.{All, take}
use Rattle.std.specs.List.{AllZip}
use Rattle.std.specs.List.Sorted.{IsStrictlySortedBy}
use Rattle.ba_eval.specs.Search.{SameRows}
use Rattle.ba_model.specs.Order.{row_cmp}
use Rattle.ba_refute.proofs.rising.in_rising_order.Given as goal

-- the tables so far rise, with the same rows
abbrev pub invariant-loop-table : goal.invariant-loop-table
invariant-loop-table l = record {
  rising : All (IsStrictlySortedBy row_cmp) l.tables.items;
  same : AllZip SameRows (take l.table-index l.lists) l.tables.items;
}
