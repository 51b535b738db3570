use Rattle.std.proofs.Common.{◌≡◌, drop}
use Rattle.indexmap.specs.IndexSet.{insert_all}
use Rattle.ba_sql_ddl.specs.Meaning as meaning
use Rattle.ba_sql_ddl.specs.Numbers.{once, same_name}
use Rattle.ba_sql_ddl.proofs.draft.primary_names.Given as goal

abbrev pub invariant-loop-item : goal.invariant-loop-item
invariant-loop-item l = insert_all same_name l.names (meaning.primary_names (drop l.item-index l.items)) ≡ once (meaning.primary_names l.items)
