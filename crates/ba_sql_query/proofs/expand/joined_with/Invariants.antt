use Rattle.std.proofs.Common.{◌≡◌, ◌++◌, map, take}
use Rattle.ba_sql_query.proofs.expand.joined_with.Given as goal

abbrev pub invariant-loop-other : goal.invariant-loop-other
invariant-loop-other l = l.found.items ≡ map (λ other. l.left ++ other) (take l.other-index l.others)
