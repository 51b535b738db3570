use Rattle.std.proofs.Common.{◌≡◌, drop, map}
use Rattle.indexmap.specs.IndexSet.{insert_all}
use Rattle.ba_sql_ddl.specs.Numbers.{once, same_name}
use Rattle.ba_sql_ddl.proofs.draft.table_names.Given as goal

abbrev pub invariant-loop-text : goal.invariant-loop-text
invariant-loop-text l = insert_all same_name l.names (map (λ t. t.name) (drop l.text-index l.texts)) ≡ once (map (λ t. t.name) l.texts)
