use Rattle.std.proofs.Common.{take}
use Rattle.std.specs.Prelude.{All}
use Rattle.ba_general.specs.Patterns.{AtomRepeats, NamesAtoms}
use Rattle.ba_general.proofs.naming.Naming.atoms.Given as goal

abbrev pub invariant-loop-atom : goal.invariant-loop-atom
invariant-loop-atom l = record { names : NamesAtoms l.fn.self (take l.atom-index l.atoms) l.self l.all; repeats : All AtomRepeats l.all }
