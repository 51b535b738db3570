use Rattle.std.proofs.Common.{All, IsTrue, take}
use Rattle.ba_target.specs.Names.{can_name}
use Rattle.ba_target.proofs.names.check_columns.Given as goal

abbrev pub invariant-loop-column : goal.invariant-loop-column
invariant-loop-column l = All (λ column. IsTrue (can_name l.database column.name)) (take l.column-index l.columns)
