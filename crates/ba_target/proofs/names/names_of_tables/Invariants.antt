use Rattle.std.proofs.Common.{◌≡◌, take}
use Rattle.ba_model.specs.SchemaFaults.{table_names}
use Rattle.ba_target.proofs.names.names_of_tables.Given as goal

abbrev pub invariant-loop-table : goal.invariant-loop-table
invariant-loop-table l = l.names.items ≡ table_names (take l.table-index l.tables)
