use Rattle.std.proofs.Common.{◌≡◌, take}
use Rattle.ba_general.specs.Layouts.{counts}
use Rattle.ba_general.proofs.layout.column_counts.Given as goal

abbrev pub invariant-loop-tables : goal.invariant-loop-tables
invariant-loop-tables l = l.all.items ≡ counts l.problem (take l.tables-index l.layout)
