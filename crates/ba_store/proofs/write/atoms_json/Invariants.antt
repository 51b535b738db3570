use Rattle.std.proofs.Common.{◌≡◌, All, map, take}
use Rattle.serde_json.specs.View.{view}
use Rattle.ba_store.specs.ReadBack.{AtomHasBits}
use Rattle.ba_store.specs.Written.{atom_json}
use Rattle.ba_store.proofs.write.atoms_json.Given as goal

abbrev pub invariant-loop-atom : goal.invariant-loop-atom
invariant-loop-atom l = (map view l.items.items ≡ map (atom_json l.params) (take l.atom-index l.atoms)) × All AtomHasBits (take l.atom-index l.atoms)
