use Rattle.std.proofs.Common.{All, take}
use Rattle.std.specs.List.Sorted.{IsStrictlySortedBy}
use Rattle.ba_model.specs.Order.{row_cmp}
use Rattle.ba_refute.proofs.rising.are_rising.Given as goal

-- the tables so far rise
abbrev pub invariant-loop-table : goal.invariant-loop-table
invariant-loop-table l = All (IsStrictlySortedBy row_cmp) (take l.table-index l.lists)
