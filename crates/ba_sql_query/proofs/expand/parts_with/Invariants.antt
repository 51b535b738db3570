use Rattle.std.proofs.Common.{◌≡◌, map, take}
use Rattle.ba_sql_query.specs.Parts.{part_of}
use Rattle.ba_sql_query.proofs.expand.parts_with.Given as goal

abbrev pub invariant-loop-conds : goal.invariant-loop-conds
invariant-loop-conds l = l.found.items ≡ map (part_of l.select) (take l.conds-index l.members)
