use Rattle.std.proofs.Common.{◌≡◌, All, map, take}
use Rattle.serde_json.specs.View.{view}
use Rattle.ba_proof.specs.ReadBack.{IsShort}
use Rattle.ba_store.specs.Written.{table_json}
use Rattle.ba_store.proofs.write.tables_json.Given as goal

abbrev pub invariant-loop-table : goal.invariant-loop-table
invariant-loop-table l = (map view l.items.items ≡ map (table_json l.schema) (take l.table-index l.tables)) × All IsShort (take l.table-index l.tables)
