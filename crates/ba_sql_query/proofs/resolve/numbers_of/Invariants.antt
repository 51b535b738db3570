use Rattle.ba_sql_query.specs.Names.{table_of}
use Rattle.ba_sql_query.proofs.EachLemmas.{EachAt}
use Rattle.ba_sql_query.proofs.resolve.numbers_of.Given as goal

abbrev pub invariant-loop-source : goal.invariant-loop-source
invariant-loop-source l = EachAt (λ source. table_of l.schema source.table) l.sources l.source-index l.found
