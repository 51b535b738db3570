use Rattle.std.proofs.Common.{◌≡◌, Some, map, take}
use Rattle.ba_model.specs.Meaning.{value_of}
use Rattle.ba_eval.specs.Index.{known}
use Rattle.ba_eval.proofs.tie.key_of_chosen.Given as goal

-- the values so far are those of the ties so far
abbrev pub invariant-loop-tie : goal.invariant-loop-tie
invariant-loop-tie l = map (λ tie. known (value_of l.ctx (map (λ row. row.now) l.chosen) tie.other.now)) (take l.tie-index l.ties) ≡ map Some (map (λ v. v.now) l.values.items)
