use Rattle.std.proofs.Common.{◌≡◌, ◌++◌, map, take}
use Rattle.ba_general.specs.Conditions.{fixed_of}
use Rattle.ba_general.proofs.condition.add_fixed.Given as goal

abbrev pub invariant-loop-operand : goal.invariant-loop-operand
invariant-loop-operand l = l.atoms.items ≡ l.fn.atoms.items ++ map fixed_of (take l.operand-index l.operands)
