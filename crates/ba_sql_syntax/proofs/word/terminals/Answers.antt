use Rattle.ba_sql_syntax.specs.Terminals.{terminal}
use Rattle.ba_grammar.proofs.MapLemmas.{map_more}
use Rattle.ba_sql_syntax.proofs.word.terminals.Goals as goal

pub loop-word-preserved : goal.loop-word-preserved
loop-word-preserved c =
    map_more terminal c.args.words.now c.loop-word.word-index c.word-item.result c.in_ok-terminal_of.field-0 c.loop-word.found.items _ c.loop-word.invariant c.loop-word-test.true c.word-item.is c.in_ok-terminal_of.ensures c.in_ok-push.ensures.items
