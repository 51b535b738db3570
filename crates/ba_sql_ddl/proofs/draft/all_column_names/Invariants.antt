use Rattle.std.proofs.Common.{◌≡◌, take, map}
use Rattle.ba_sql_ddl.specs.Meaning as meaning
use Rattle.ba_sql_ddl.specs.Numbers.{once}
use Rattle.ba_sql_ddl.proofs.draft.all_column_names.Given as goal

abbrev pub invariant-loop-text : goal.invariant-loop-text
invariant-loop-text l = l.all ≡ map (λ t. once (meaning.names_in t.items)) (take l.text-index l.texts)
