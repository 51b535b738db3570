use Rattle.std.proofs.Common.{◌≡◌, true, take}
use Rattle.std.specs.List.{list_all}
use Rattle.ba_sql_query.specs.Resolve.{select_lacks}
use Rattle.ba_sql_query.proofs.lacking.text_lacks.Given as goal

abbrev pub invariant-loop-select : goal.invariant-loop-select
invariant-loop-select l = list_all (select_lacks l.rank l.schema l.params) (take l.select-index l.selects) ≡ true
