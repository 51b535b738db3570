use Rattle.std.proofs.Common.{◌≡◌, map, take}
use Rattle.ba_model.specs.declared.query.Operand.TheVariants.{Val}
use Rattle.ba_kernel.proofs.problem.literals.Given as goal

abbrev pub invariant-loop-value : goal.invariant-loop-value
invariant-loop-value l = l.operands.items ≡ map Val (take l.value-index l.row)
