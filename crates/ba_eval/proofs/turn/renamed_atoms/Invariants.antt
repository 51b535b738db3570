use Rattle.std.proofs.Common.{◌≡◌, map, take}
use Rattle.ba_eval.specs.Turn.{rename_atom}
use Rattle.ba_eval.proofs.turn.renamed_atoms.Given as goal

abbrev pub invariant-loop-atom : goal.invariant-loop-atom
invariant-loop-atom l = l.others ≡ map (rename_atom l.back) (take l.atom-index l.atoms)
