use Rattle.ba_judge.proofs.JudgeLemmas.{leaf_at, problem_at, settles_at}
use Rattle.ba_judge.specs.Judging.{effort_in, seen}
use Rattle.ba_settle.specs.declared.ends.Settled.TheVariants as settled
use Rattle.ba_judge.proofs.whole.search.Goals as goal

pub weigh-requires-clause-ends : goal.weigh-requires-clause-ends
weigh-requires-clause-ends g c =
    settles_at (seen c.args.asked.now) (effort_in (g.S.Settle.orders c.args.settle.now) c.args.budget) c.in_ok-problem.problem c.in_ok-problem.ensures.is c.in_ok-settled.settled c.in_ok-settled.ensures
    (settled.Proved c.in-Proved.proved) c.in-Proved.is

pub reason_of-requires-clause-problem : goal.reason_of-requires-clause-problem
reason_of-requires-clause-problem g c =
    problem_at (seen c.args.asked.now) (effort_in (g.S.Settle.orders c.args.settle.now) c.args.budget) c.in_ok-problem.problem c.in_ok-problem.ensures.is c.in_ok-settled.settled c.in_ok-settled.ensures
    c.in-Saturated.leaf c.in-Saturated.is

pub reason_of-requires-clause-leaf : goal.reason_of-requires-clause-leaf
reason_of-requires-clause-leaf g c =
    leaf_at (seen c.args.asked.now) (effort_in (g.S.Settle.orders c.args.settle.now) c.args.budget) c.in_ok-problem.problem c.in_ok-problem.ensures.is c.in_ok-settled.settled c.in_ok-settled.ensures
    c.in-Saturated.leaf c.in-Saturated.is c.settled_are_leaves.ensures

pub returns-in-Spent-clause-concludes : goal.returns-in-Spent-clause-concludes
returns-in-Spent-clause-concludes g c = record {
  uncovered = c.requires.uncovered;
  reason_is =
      settles_at (seen c.args.asked.now) (effort_in (g.S.Settle.orders c.args.settle.now) c.args.budget) c.in_ok-problem.problem c.in_ok-problem.ensures.is c.in_ok-settled.settled c.in_ok-settled.ensures
      (settled.Spent c.in-Spent.steps) c.in-Spent.is;
}

pub returns-in_ok-reason-in-Saturated-clause-concludes : goal.returns-in_ok-reason-in-Saturated-clause-concludes
returns-in_ok-reason-in-Saturated-clause-concludes g c =
    let effort = effort_in (g.S.Settle.orders c.args.settle.now) c.args.budget in
    let ends = settles_at (seen c.args.asked.now) effort c.in_ok-problem.problem c.in_ok-problem.ensures.is c.in_ok-settled.settled c.in_ok-settled.ensures (settled.Saturated c.in-Saturated.leaf) c.in-Saturated.is in
    record { uncovered = c.requires.uncovered; reason_is = c.in_ok-reason-in-Saturated.ensures effort ends }
