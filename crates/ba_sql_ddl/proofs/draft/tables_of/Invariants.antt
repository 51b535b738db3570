use Rattle.std.proofs.Common.{◌≡◌, take, map}
use Rattle.ba_sql_ddl.specs.Meaning as meaning
use Rattle.ba_sql_ddl.proofs.draft.tables_of.Given as goal

abbrev pub invariant-loop-text : goal.invariant-loop-text
invariant-loop-text l = l.tables ≡ map (meaning.table_of l.scope) (take l.text-index l.texts)
