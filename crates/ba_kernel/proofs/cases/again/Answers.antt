use Rattle.ba_kernel.proofs.SpareLemmas.{one_case, passed, popped}
use Rattle.ba_kernel.proofs.cases.again.Goals as goal

pub cases_of-requires-clause-passes : goal.cases_of-requires-clause-passes
cases_of-requires-clause-passes c = passed c.args.problem.now c.args.branch c.requires.one.0 c.args.step.now c.requires.one.1

pub returns : goal.returns
returns c = λ new to.
    popped c.in_ok-cases.cases.items c.in_ok-cases.cases.len c.pop.result new c.in_ok-cases.cases.ok.0
    (one_case c.args.problem.now c.args.branch new c.args.step.now c.in_ok-cases.cases.items c.requires.fits to c.in_ok-cases.ensures) c.pop.ensures.value
