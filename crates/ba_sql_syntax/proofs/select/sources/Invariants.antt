use Rattle.ba_sql_syntax.specs.Reader.{join_goes, join_step, joined, sources_at}
use Rattle.ba_sql_syntax.proofs.RunLemmas.{At}
use Rattle.ba_sql_syntax.proofs.select.sources.Given as goal

abbrev pub invariant-loop : goal.invariant-loop
invariant-loop l = At join_goes join_step l.words l.counter (joined l.so_far.sources l.so_far.condition l.rest) (sources_at l.words)
