use Rattle.std.proofs.Common.{◌≡◌, take}
use Rattle.ba_general.specs.Dropping.{kept_atoms}
use Rattle.ba_general.proofs.dropping.Pass.kept_atoms.Given as goal

abbrev pub invariant-loop-n : goal.invariant-loop-n
invariant-loop-n l = l.all ≡ kept_atoms (take l.n l.self.atoms.items) (take l.n l.kept.items)
