use Rattle.std.proofs.Common.{◌≡◌, Some, map, take}
use Rattle.ba_model.specs.Meaning.{value_of}
use Rattle.ba_eval.proofs.part.is_head.Given as goal

-- the values so far are those of the operands so far
abbrev pub invariant-loop-i : goal.invariant-loop-i
invariant-loop-i l = map (value_of l.ctx (map (λ row. row.now) l.chosen)) (take l.i l.head) ≡ map Some (take l.i l.row)
