use Rattle.ba_sql_ddl.proofs.RuleLemmas.{RulesAt}
use Rattle.ba_sql_ddl.proofs.read.rules.Given as goal

abbrev pub invariant-loop : goal.invariant-loop
invariant-loop l = RulesAt l.most l.counter l.found l.rest l.words
