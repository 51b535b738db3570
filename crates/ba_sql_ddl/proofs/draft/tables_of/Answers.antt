use Rattle.ba_sql_ddl.specs.Meaning.{table_of}
use Rattle.ba_grammar.proofs.MapLemmas.{map_more}
use Rattle.ba_sql_ddl.proofs.draft.tables_of.Goals as goal

pub loop-text-preserved : goal.loop-text-preserved
loop-text-preserved c =
    map_more (table_of c.args.scope.now) c.args.texts.now c.loop-text.text-index c.text-item.result c.in_ok-table_of.field-0 c.loop-text.tables _ c.loop-text.invariant c.loop-text-test.true c.text-item.is c.in_ok-table_of.ensures c.in_ok-push.ensures.ok
