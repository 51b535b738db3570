use Rattle.std.proofs.Common.{get_or}
use Rattle.ba_kernel.proofs.BuildLemmas.{fact_added, facts_all, facts_more}
use Rattle.ba_kernel.proofs.cases.build.add_facts.Goals as goal

pub loop-table-preserved : goal.loop-table-preserved
loop-table-preserved c =
    facts_more c.args.problem.now.policy.schema c.args.side c.args.round c.args.new.now c.loop-table.new c.add_fact.new.self c.args.from.now c.loop-table.table-index
    c.loop-table-test.true c.loop-table.invariant
    (fact_added c.args.problem.now.policy.schema c.args.side c.args.round c.loop-table.new c.add_fact.new.self (get_or c.args.from.now c.loop-table.table-index 0)
    c.columns.result.now c.columns.ensures c.in_ok-add_fact.ensures.ok)

pub returns : goal.returns
returns c =
    facts_all c.args.problem.now.policy.schema c.args.side c.args.round c.args.new.now c.loop-table.new c.args.from.now c.loop-table.table-index c.loop-table-test.false
    c.loop-table.invariant
