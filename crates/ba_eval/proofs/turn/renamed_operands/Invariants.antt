use Rattle.std.proofs.Common.{◌≡◌, map, take}
use Rattle.ba_eval.specs.Turn.{rename}
use Rattle.ba_eval.proofs.turn.renamed_operands.Given as goal

abbrev pub invariant-loop-operand : goal.invariant-loop-operand
invariant-loop-operand l = l.others ≡ map (rename l.back) (take l.operand-index l.operands)
