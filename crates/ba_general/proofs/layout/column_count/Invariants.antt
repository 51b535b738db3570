use Rattle.std.proofs.Common.{◌≡◌, take}
use Rattle.ba_general.specs.Layouts.{wide}
use Rattle.ba_general.proofs.layout.column_count.Given as goal

abbrev pub invariant-loop-table : goal.invariant-loop-table
invariant-loop-table l = l.count ≡ wide l.problem.policy.schema (take l.table-index l.tables)
