use Rattle.ba_sql_ddl.proofs.InclusionLemmas.{RulesAt}
use Rattle.ba_sql_ddl.proofs.inclusion.rules_from.Given as goal

abbrev pub invariant-loop-text : goal.invariant-loop-text
invariant-loop-text l = RulesAt l.schema l.rules l.texts l.text-index
