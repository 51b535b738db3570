use Rattle.std.proofs.Common.{◌≡◌, drop}
use Rattle.indexmap.specs.IndexSet.{insert_all}
use Rattle.ba_sql_ddl.specs.Numbers.{same_name}
use Rattle.ba_sql_ddl.proofs.names.Names.add_all.Given as goal

abbrev pub invariant-loop-name : goal.invariant-loop-name
invariant-loop-name l = insert_all same_name l.self (drop l.name-index l.names) ≡ insert_all same_name l.initial.self l.names
