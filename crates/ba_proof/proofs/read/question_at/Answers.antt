use Rattle.ba_proof.proofs.FitLemmas.{read_question_asked, read_question_fits}
use Rattle.ba_proof.proofs.read.question_at.Goals as goal

pub returns-clause-fits : goal.returns-clause-fits
returns-clause-fits c = λ is.
    c.in_ok-problem.ensures.fits
    (read_question_fits c.args.policy.now c.deref.result.now c.deref-2.result.now c.deref-3.result.now c.as_slice.result.now _ _ _ _ _ c.deref.ensures c.deref-2.ensures c.deref-3.ensures c.as_slice.ensures
    c.in_ok-context.ensures.exact c.in_ok-trace.ensures.fits c.in_ok-query.ensures.query c.in_ok-goal.ensures is)

pub returns-clause-asked : goal.returns-clause-asked
returns-clause-asked c =
    read_question_asked c.args.policy.now c.deref.result.now c.deref-2.result.now c.deref-3.result.now c.as_slice.result.now _ _ _ _ _ _ c.deref.ensures c.deref-2.ensures c.deref-3.ensures
    c.as_slice.ensures c.in_ok-context.ensures.exact c.in_ok-trace.ensures.fits c.in_ok-query.ensures.query c.in_ok-goal.ensures c.in_ok-problem.ensures.is
