use Rattle.ba_sql_syntax.specs.Reader.{selects_at, union_goes, union_step}
use Rattle.ba_sql_syntax.proofs.RunLemmas.{At}
use Rattle.ba_sql_syntax.proofs.text.selects.Given as goal

abbrev pub invariant-loop : goal.invariant-loop
invariant-loop l = At union_goes union_step l.words l.counter (l.found, l.rest) (selects_at l.words)
