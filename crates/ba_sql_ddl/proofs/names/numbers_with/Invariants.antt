use Rattle.std.proofs.Common.{◌≡◌, map, take}
use Rattle.ba_sql_ddl.specs.Numbers.{key_number}
use Rattle.ba_sql_ddl.proofs.names.numbers_with.Given as goal

abbrev pub invariant-loop-name : goal.invariant-loop-name
invariant-loop-name l = l.found ≡ map (key_number l.columns l.own) (take l.name-index l.names)
