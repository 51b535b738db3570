use Rattle.std.proofs.Common.{◌≡◌, drop}
use Rattle.std.specs.List.{flat_map}
use Rattle.indexmap.specs.IndexSet.{insert_all}
use Rattle.ba_sql_ddl.specs.Meaning as meaning
use Rattle.ba_sql_ddl.specs.Numbers.{same_name}
use Rattle.ba_sql_ddl.proofs.draft.add_primary_of_rules.Given as goal

abbrev pub invariant-loop-rule : goal.invariant-loop-rule
invariant-loop-rule l = insert_all same_name l.names (flat_map (meaning.primary_of_rule l.name) (drop l.rule-index l.rules)) ≡ insert_all same_name l.initial.names (flat_map (meaning.primary_of_rule l.name) l.rules)
