use Rattle.std.proofs.Common.{All, take}
use Rattle.ba_target.specs.Names.{ServesTable}
use Rattle.ba_target.proofs.names.check_tables.Given as goal

abbrev pub invariant-loop-table : goal.invariant-loop-table
invariant-loop-table l = All (ServesTable l.database) (take l.table-index l.tables)
