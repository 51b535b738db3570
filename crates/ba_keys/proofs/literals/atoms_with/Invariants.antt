use Rattle.std.proofs.Common.{◌≡◌, map, take}
use Rattle.ba_keys.specs.Literals.{atom_with}
use Rattle.ba_keys.proofs.literals.atoms_with.Given as goal

abbrev pub invariant-loop-atom : goal.invariant-loop-atom
invariant-loop-atom l = l.found ≡ map (atom_with l.params l.values) (take l.atom-index l.atoms)
