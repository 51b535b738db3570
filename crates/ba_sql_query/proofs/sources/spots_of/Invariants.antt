use Rattle.std.proofs.Common.{take}
use Rattle.ba_sql_query.specs.Spots.{Tells}
use Rattle.ba_sql_query.proofs.sources.spots_of.Given as goal

abbrev pub invariant-loop-place : goal.invariant-loop-place
invariant-loop-place l = Tells l.spots (take l.place l.sources)
