use Rattle.std.proofs.Common.{◌≡◌, Some, map, slice_get, take}
use Rattle.ba_eval.proofs.turn.tables_at.Given as goal

-- the tables at the places so far
abbrev pub invariant-loop-place : goal.invariant-loop-place
invariant-loop-place l = map (slice_get l.from) (take l.place-index l.to) ≡ map Some l.tables
