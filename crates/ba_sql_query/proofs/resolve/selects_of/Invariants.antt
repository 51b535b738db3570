use Rattle.ba_sql_query.specs.Resolve.{select_of}
use Rattle.ba_sql_query.proofs.EachLemmas.{EachAt}
use Rattle.ba_sql_query.proofs.resolve.selects_of.Given as goal

abbrev pub invariant-loop-select : goal.invariant-loop-select
invariant-loop-select l = EachAt (select_of l.schema l.params) l.selects l.select-index l.found
