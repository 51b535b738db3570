use Rattle.std.proofs.Common.{◌≡◌, All, map, take}
use Rattle.serde_json.specs.View.{view}
use Rattle.ba_proof.specs.ReadBack.{ValueSpells}
use Rattle.ba_wire.specs.Printed.{row_json}
use Rattle.ba_evidence.proofs.rows.rows_json.Given as goal

abbrev pub invariant-loop-row : goal.invariant-loop-row
invariant-loop-row l = (map view l.items.items ≡ map row_json (take l.row-index l.rows)) × All (All ValueSpells) (take l.row-index l.rows)
