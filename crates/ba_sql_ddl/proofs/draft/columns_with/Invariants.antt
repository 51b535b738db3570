use Rattle.std.proofs.Common.{◌≡◌, take, map}
use Rattle.ba_sql_ddl.specs.Meaning as meaning
use Rattle.ba_sql_ddl.proofs.draft.columns_with.Given as goal

abbrev pub invariant-loop-item : goal.invariant-loop-item
invariant-loop-item l = l.found ≡ map (meaning.column_of l.primary) (meaning.columns_in (take l.item-index l.items))
