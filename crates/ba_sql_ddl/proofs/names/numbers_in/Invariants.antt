use Rattle.std.proofs.Common.{◌≡◌, map, take}
use Rattle.ba_sql_ddl.specs.Numbers.{number_in}
use Rattle.ba_sql_ddl.proofs.names.numbers_in.Given as goal

abbrev pub invariant-loop-name : goal.invariant-loop-name
invariant-loop-name l = l.found ≡ map (number_in l.tables l.table) (take l.name-index l.names)
