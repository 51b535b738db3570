use Rattle.std.proofs.Common.{take}
use Rattle.ba_sql_query.specs.Spots.{Keeps}
use Rattle.ba_sql_query.proofs.tables.kept_of.Given as goal

abbrev pub invariant-loop-place : goal.invariant-loop-place
invariant-loop-place l = Keeps l.kept.items (take l.place l.tables)
