use Rattle.std.proofs.Common.{◌≡◌, map, take}
use Rattle.std.specs.List.{All, list_any}
use Rattle.ba_keys.specs.Literals.{atom_with}
use Rattle.ba_send.specs.Sendable.{atom_has_zero}
use Rattle.ba_sql_print.specs.Spelling.{AtomInRange}
use Rattle.ba_send.proofs.zero.atoms_have_zero.Given as goal

abbrev pub invariant-loop-atom : goal.invariant-loop-atom
invariant-loop-atom l =
    (l.found ≡ list_any atom_has_zero (map (atom_with 0 l.values) (take l.atom-index l.atoms)))
    × All AtomInRange (map (atom_with 0 l.values) (take l.atom-index l.atoms))
