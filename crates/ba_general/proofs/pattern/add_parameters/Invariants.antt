use Rattle.std.proofs.Common.{◌≡◌, ◌++◌, take}
use Rattle.ba_general.specs.Conditions.{parameters_of}
use Rattle.ba_general.proofs.pattern.add_parameters.Given as goal

abbrev pub invariant-loop-atom : goal.invariant-loop-atom
invariant-loop-atom l = l.all ≡ l.fn.all ++ parameters_of (take l.atom-index l.assumed)
