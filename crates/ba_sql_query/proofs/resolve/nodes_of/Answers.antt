use Rattle.std.proofs.lemmas.Result.{err_from_is_err_and}
use Rattle.ba_sql_query.specs.Resolve.{node_of}
use Rattle.ba_sql_query.proofs.EachLemmas.{each_fails, each_goes_on}
use Rattle.ba_sql_query.proofs.resolve.nodes_of.Goals as goal

pub returns-in_err-next : goal.returns-in_err-next
returns-in_err-next c =
    let p = err_from_is_err_and c.from_residual.result c.from_residual.ensures.1 in
    rw (p.1, p.2) (each_fails (node_of c.args.scope.now.schema.now c.args.params.now c.args.scope.now.sources c.args.scope.now.from) c.args.nodes.now c.loop-node.node-index c.loop-node.found c.node-item.result c.in_err-next.field-0.0 c.loop-node.invariant c.loop-node-test.true c.node-item.is c.in_err-next.ensures)

pub loop-node-preserved : goal.loop-node-preserved
loop-node-preserved c =
    each_goes_on (node_of c.args.scope.now.schema.now c.args.params.now c.args.scope.now.sources c.args.scope.now.from) c.args.nodes.now c.loop-node.node-index c.loop-node.found _ c.node-item.result c.in_ok-next.next c.loop-node.invariant c.loop-node-test.true c.node-item.is c.in_ok-next.ensures c.in_ok-push.ensures.ok
