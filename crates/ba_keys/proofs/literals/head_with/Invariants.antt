use Rattle.std.proofs.Common.{◌≡◌, map, take}
use Rattle.ba_keys.specs.Literals.{operand_with}
use Rattle.ba_keys.proofs.literals.head_with.Given as goal

abbrev pub invariant-loop-operand : goal.invariant-loop-operand
invariant-loop-operand l = l.found ≡ map (operand_with l.params l.values) (take l.operand-index l.head)
