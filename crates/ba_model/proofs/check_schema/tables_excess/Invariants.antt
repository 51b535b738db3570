use Rattle.std.proofs.Common.{◌≡◌, drop}
use Rattle.ba_model.specs.SchemaFaults as faults
use Rattle.ba_model.proofs.check_schema.tables_excess.Given as goal

-- no table so far has an excess
abbrev pub invariant-loop-table : goal.invariant-loop-table
invariant-loop-table l = faults.tables_excess l.tables ≡ faults.tables_excess (drop l.table-index l.tables)
