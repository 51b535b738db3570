use Rattle.std.proofs.Common.{◌≡◌, All, map, take}
use Rattle.serde_json.specs.View.{view}
use Rattle.ba_store.specs.ReadBack.{OperandHasBits}
use Rattle.ba_store.specs.Written.{operand_json}
use Rattle.ba_store.proofs.write.operands_json.Given as goal

abbrev pub invariant-loop-operand : goal.invariant-loop-operand
invariant-loop-operand l = (map view l.items.items ≡ map (operand_json l.params) (take l.operand-index l.operands)) × All OperandHasBits (take l.operand-index l.operands)
