use Rattle.std.proofs.Common.{◌≡◌, ◌++◌, take, map}
use Rattle.std.specs.List.{flat_map}
use Rattle.ba_sql_ddl.specs.Meaning as meaning
use Rattle.ba_sql_ddl.proofs.draft.add_own_keys.Given as goal

abbrev pub invariant-loop-rule : goal.invariant-loop-rule
invariant-loop-rule l = l.found ≡ l.initial.found ++ map (meaning.key_of l.columns) (flat_map (meaning.own_keys l.column.name) (take l.rule-index l.column.rules))
