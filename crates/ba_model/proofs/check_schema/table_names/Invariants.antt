use Rattle.std.proofs.Common.{◌≡◌, take}
use Rattle.ba_model.specs.SchemaFaults as faults
use Rattle.ba_model.proofs.check_schema.table_names.Given as goal

abbrev pub invariant-loop-table : goal.invariant-loop-table
invariant-loop-table l = l.names.items ≡ faults.table_names (take l.table-index l.tables)
