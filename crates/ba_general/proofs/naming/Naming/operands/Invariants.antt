use Rattle.std.proofs.Common.{take}
use Rattle.ba_general.specs.Patterns.{NamesOperands}
use Rattle.ba_general.proofs.naming.Naming.operands.Given as goal

abbrev pub invariant-loop-operand : goal.invariant-loop-operand
invariant-loop-operand l = NamesOperands l.fn.self (take l.operand-index l.operands) l.self l.all
