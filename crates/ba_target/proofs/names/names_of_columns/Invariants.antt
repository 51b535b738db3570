use Rattle.std.proofs.Common.{◌≡◌, take}
use Rattle.ba_model.specs.SchemaFaults.{column_names}
use Rattle.ba_target.proofs.names.names_of_columns.Given as goal

abbrev pub invariant-loop-column : goal.invariant-loop-column
invariant-loop-column l = l.names.items ≡ column_names (take l.column-index l.columns)
