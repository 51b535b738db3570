use Rattle.std.proofs.Common.{◌≡◌, map, take}
use Rattle.ba_sql_ddl.specs.Numbers.{number}
use Rattle.ba_sql_ddl.proofs.names.numbers.Given as goal

abbrev pub invariant-loop-name : goal.invariant-loop-name
invariant-loop-name l = l.found ≡ map (number l.columns) (take l.name-index l.names)
