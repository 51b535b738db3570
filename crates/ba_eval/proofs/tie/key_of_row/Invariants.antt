use Rattle.std.proofs.Common.{◌≡◌, Some, map, slice_get, take}
use Rattle.ba_eval.specs.Index.{known}
use Rattle.ba_eval.proofs.tie.key_of_row.Given as goal

-- the values so far are those of the ties so far
abbrev pub invariant-loop-tie : goal.invariant-loop-tie
invariant-loop-tie l = map (λ tie. known (slice_get l.row tie.column)) (take l.tie-index l.ties) ≡ map Some (map (λ v. v.now) l.values.items)
