use Rattle.std.proofs.Common.{◌≡◌, ◌∙◌, length, sym}
use Rattle.ba_sql_query.proofs.StackLemmas.{count_goes_on, counts_none, counts_top}
use Rattle.ba_sql_query.proofs.count.count_run.Goals as goal

pub loop-node-preserved : goal.loop-node-preserved
loop-node-preserved c = count_goes_on c.args.condition.now c.loop-node.node-index c.node-item.result _ _ c.loop-node-test.true c.node-item.is c.loop-node.invariant c.in_ok-count_after.ensures

pub returns-in-Some : goal.returns-in-Some
returns-in-Some c = counts_top c.args.condition.now c.loop-node.node-index c.loop-node.stack.items _ c.in-Some.count c.loop-node-test.false c.loop-node.invariant c.in-Some.ensures.items

pub returns : goal.returns
returns c =
    let size : length c.loop-node.stack.items ≡ 0 = sym c.loop-node.stack.ok.0 ∙ c.in-None.ensures.cases.0 in
    counts_none c.args.condition.now c.loop-node.node-index c.loop-node.stack.items c.loop-node-test.false c.loop-node.invariant size
