use Rattle.std.proofs.Common.{◌≡◌, map, take}
use Rattle.ba_template.specs.Shapes.{shape_atom}
use Rattle.ba_template.proofs.shapes.atom_shapes.Given as goal

abbrev pub invariant-loop-atom : goal.invariant-loop-atom
invariant-loop-atom l = l.all.items ≡ map (shape_atom l.vars) (take l.atom-index l.atoms)
