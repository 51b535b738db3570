use Rattle.ba_sql_query.specs.Resolve.{node_of}
use Rattle.ba_sql_query.proofs.EachLemmas.{EachAt}
use Rattle.ba_sql_query.proofs.resolve.nodes_of.Given as goal

abbrev pub invariant-loop-node : goal.invariant-loop-node
invariant-loop-node l = EachAt (node_of l.scope.schema.now l.params l.scope.sources l.scope.from) l.nodes l.node-index l.found
