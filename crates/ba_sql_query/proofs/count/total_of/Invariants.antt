use Rattle.std.proofs.Common.{take}
use Rattle.ba_sql_query.specs.Parts.{parts_of}
use Rattle.ba_sql_query.proofs.CountLemmas.{SizeSoFar}
use Rattle.ba_sql_query.proofs.count.total_of.Given as goal

abbrev pub invariant-loop-select : goal.invariant-loop-select
invariant-loop-select l = SizeSoFar l.parts l.all_fit (parts_of (take l.select-index l.selects))
