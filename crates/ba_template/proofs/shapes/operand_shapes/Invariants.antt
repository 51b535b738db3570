use Rattle.std.proofs.Common.{◌≡◌, map, take}
use Rattle.ba_template.specs.Shapes.{shape_operand}
use Rattle.ba_template.proofs.shapes.operand_shapes.Given as goal

abbrev pub invariant-loop-operand : goal.invariant-loop-operand
invariant-loop-operand l = l.all.items ≡ map (shape_operand l.vars) (take l.operand-index l.operands)
