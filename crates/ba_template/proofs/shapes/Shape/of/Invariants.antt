use Rattle.std.proofs.Common.{◌≡◌, map, take}
use Rattle.ba_template.specs.Shapes.{shape_part}
use Rattle.ba_template.proofs.shapes.Shape.of.Given as goal

abbrev pub invariant-loop-part : goal.invariant-loop-part
invariant-loop-part l = l.parts.items ≡ map (shape_part l.vars) (take l.part-index l.part-items)
