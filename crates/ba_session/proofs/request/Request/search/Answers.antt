use Rattle.std.proofs.Common.{subst}
use Rattle.ba_kernel.specs.Problems.{StrongAll}
use Rattle.ba_session.proofs.JudgeLemmas.{leaf_at, problem_at, proved_at, settles_at}
use Rattle.ba_session.specs.Asking.{effort_in}
use Rattle.ba_settle.specs.declared.ends.Settled.TheVariants as settled
use Rattle.ba_session.proofs.request.Request.search.Goals as goal

pub reason_of-requires-clause-problem : goal.reason_of-requires-clause-problem
reason_of-requires-clause-problem g c =
    problem_at c.args.policy.now c.args.self.now (effort_in (g.S.Settle.orders c.args.settle.now) c.args.budget) c.args.query.now c.in_ok-problem.problem c.in_ok-problem.ensures.is
    c.in_ok-settled.settled c.in_ok-settled.ensures c.in-Saturated.leaf c.in-Saturated.is

pub reason_of-requires-clause-leaf : goal.reason_of-requires-clause-leaf
reason_of-requires-clause-leaf g c =
    leaf_at c.args.policy.now c.args.self.now (effort_in (g.S.Settle.orders c.args.settle.now) c.args.budget) c.args.query.now c.in_ok-problem.problem c.in_ok-problem.ensures.is
    c.in_ok-settled.settled c.in_ok-settled.ensures c.in-Saturated.leaf c.in-Saturated.is c.settled_are_leaves.ensures

pub returns-in-Proved : goal.returns-in-Proved
returns-in-Proved g c =
    proved_at c.args.policy.now c.args.self.now (effort_in (g.S.Settle.orders c.args.settle.now) c.args.budget) c.args.query.now c.in_ok-problem.problem c.in_ok-problem.ensures.is
    c.in_ok-settled.settled c.in_ok-settled.ensures c.in-Proved.proved c.in-Proved.is c.problem_is_question.ensures c.requires.fits
    (subst StrongAll c.problem-strong.ensures.is c.problem-strong.ensures.strong)

pub returns-in-Spent : goal.returns-in-Spent
returns-in-Spent g c =
    settles_at c.args.policy.now c.args.self.now (effort_in (g.S.Settle.orders c.args.settle.now) c.args.budget) c.args.query.now c.in_ok-problem.problem c.in_ok-problem.ensures.is
    c.in_ok-settled.settled c.in_ok-settled.ensures (settled.Spent c.in-Spent.steps) c.in-Spent.is

pub returns-in_ok-why-in-Saturated : goal.returns-in_ok-why-in-Saturated
returns-in_ok-why-in-Saturated g c =
    let effort = effort_in (g.S.Settle.orders c.args.settle.now) c.args.budget in
    let ends = settles_at c.args.policy.now c.args.self.now effort c.args.query.now c.in_ok-problem.problem c.in_ok-problem.ensures.is
    c.in_ok-settled.settled c.in_ok-settled.ensures (settled.Saturated c.in-Saturated.leaf) c.in-Saturated.is in
    c.in_ok-why-in-Saturated.ensures effort ends
