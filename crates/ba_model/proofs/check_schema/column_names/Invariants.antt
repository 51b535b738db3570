use Rattle.std.proofs.Common.{◌≡◌, take}
use Rattle.ba_model.specs.SchemaFaults as faults
use Rattle.ba_model.proofs.check_schema.column_names.Given as goal

abbrev pub invariant-loop-column : goal.invariant-loop-column
invariant-loop-column l = l.names.items ≡ faults.column_names (take l.column-index l.columns)
