use Rattle.std.proofs.Common.{◌≡◌, All, map, take}
use Rattle.serde_json.specs.View.{view}
use Rattle.ba_proof.specs.ReadBack.{ValueSpells}
use Rattle.ba_wire.specs.Printed.{value_json}
use Rattle.ba_evidence.proofs.rows.row_json.Given as goal

abbrev pub invariant-loop-value : goal.invariant-loop-value
invariant-loop-value l = (map view l.items.items ≡ map value_json (take l.value-index l.row)) × All ValueSpells (take l.value-index l.row)
