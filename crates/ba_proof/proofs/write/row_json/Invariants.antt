use Rattle.std.proofs.Common.{◌≡◌, map, take}
use Rattle.serde_json.specs.View.{view}
use Rattle.ba_proof.specs.Written.{literal_in, literal_json}
use Rattle.ba_proof.proofs.write.row_json.Given as goal

abbrev pub invariant-loop-operand : goal.invariant-loop-operand
invariant-loop-operand l = map view l.items.items ≡ map (λ it. literal_json (literal_in it)) (take l.operand-index l.row)
