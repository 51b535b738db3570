use Rattle.ba_contradict.proofs.ToldLemmas.{ends_open, ends_proved, proves}
use Rattle.ba_contradict.specs.Contradictions.{effort_in}
use Rattle.ba_kernel.specs.Problems.{problem_of}
use Rattle.ba_settle.specs.declared.ends.Settled.TheVariants as settled
use Rattle.ba_contradict.proofs.search.proof_of.Goals as goal

pub returns-in-Proved-clause-found : goal.returns-in-Proved-clause-found
returns-in-Proved-clause-found g c =
    let p = problem_of c.args.policy.now c.args.context.now c.args.trace.now c.args.query.now in
    let effort = effort_in (g.S.Settle.orders c.args.settle.now) c.args.budget in
    ends_proved p effort c.in_ok-problem.problem c.in_ok-problem.ensures.is
    c.in_ok-settled.settled c.in_ok-settled.ensures c.in-Proved.proved c.in-Proved.is
    c.into_steps.result c.into_steps.ensures.is

pub returns-in-Proved-clause-strong : goal.returns-in-Proved-clause-strong
returns-in-Proved-clause-strong g c =
    let p = problem_of c.args.policy.now c.args.context.now c.args.trace.now c.args.query.now in
    let effort = effort_in (g.S.Settle.orders c.args.settle.now) c.args.budget in
    c.problem_is_question.ensures c.args.policy.now c.args.context.now c.args.trace.now
    c.args.query.now c.requires.fits.context
    (proves p effort c.in_ok-problem.problem c.in_ok-problem.ensures.is c.in_ok-settled.settled
    c.in_ok-settled.ensures c.in-Proved.proved c.in-Proved.is c.into_steps.ensures.strong)

pub returns-in-Saturated-clause-found : goal.returns-in-Saturated-clause-found
returns-in-Saturated-clause-found g c =
    let p = problem_of c.args.policy.now c.args.context.now c.args.trace.now c.args.query.now in
    let effort = effort_in (g.S.Settle.orders c.args.settle.now) c.args.budget in
    ends_open p effort c.in_ok-problem.problem c.in_ok-problem.ensures.is c.in_ok-settled.settled
    c.in_ok-settled.ensures (settled.Saturated c.in-Saturated.field-0) c.in-Saturated.is tt
