use Rattle.ba_sql_query.specs.Names.{constant_of}
use Rattle.ba_sql_query.proofs.EachLemmas.{EachAt}
use Rattle.ba_sql_query.proofs.resolve.constants_of.Given as goal

abbrev pub invariant-loop-constant : goal.invariant-loop-constant
invariant-loop-constant l = EachAt (constant_of l.params) l.constants l.constant-index l.found
