use Rattle.std.proofs.Common.{◌≡◌, Some, map, slice_get, take}
use Rattle.ba_tables.proofs.by_order.take_key.Given as goal

-- the values so far are those on the columns so far
abbrev pub invariant-loop-column : goal.invariant-loop-column
invariant-loop-column l = map (slice_get l.row) (take l.column-index l.columns) ≡ map Some (map (λ v. v.now) l.key.items)
