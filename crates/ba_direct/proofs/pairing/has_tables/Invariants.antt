use Rattle.std.proofs.Common.{◌≡◌, map, take}
use Rattle.std.specs.Prelude.{Some, slice_get}
use Rattle.ba_direct.proofs.pairing.has_tables.Given as goal

-- the tables so far are right
abbrev pub invariant-loop-i : goal.invariant-loop-i
invariant-loop-i l = map (slice_get l.from) (take l.i l.to) ≡ map Some (take l.i l.tables)
