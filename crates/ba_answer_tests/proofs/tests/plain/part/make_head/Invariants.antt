use Rattle.std.proofs.Common.{◌≡◌, Some, map, take}
use Rattle.ba_model.specs.Meaning.{value_of}
use Rattle.ba_answer_tests.proofs.tests.plain.part.make_head.Given as goal

-- the values so far are those of the operands so far
abbrev pub invariant-loop-operand : goal.invariant-loop-operand
invariant-loop-operand l = map (value_of l.ctx (map (λ row. row.now) l.chosen)) (take l.operand-index l.head) ≡ map Some l.values.items
