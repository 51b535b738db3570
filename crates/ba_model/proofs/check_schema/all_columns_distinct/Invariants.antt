use Rattle.std.proofs.Common.{All, take}
use Rattle.ba_model.specs.SchemaFaults as faults
use Rattle.ba_model.proofs.check_schema.all_columns_distinct.Given as goal

abbrev pub invariant-loop-table : goal.invariant-loop-table
invariant-loop-table l = All faults.ColumnsDistinct (take l.table-index l.tables)
