use Rattle.std.proofs.Common.{◌≡◌, subst, sym}
use Rattle.std.proofs.lemmas.Result.{IfOk-weaker}
use Rattle.ba_kernel.proofs.AskedLemmas.{question_is_problem}
use Rattle.ba_kernel.specs.Courses.{ProblemFits}
use Rattle.ba_kernel.specs.Problems.{problem_of}
use Rattle.ba_kernel.proofs.problem.Problem.of.Goals as goal

pub returns-clause-fits : goal.returns-clause-fits
returns-clause-fits c =
    λ h.
    IfOk-weaker c.of_question.result (λ it. it ≡ problem_of c.args.policy.now c.args.ctx.now c.args.trace.now c.args.query.now) ProblemFits
    (λ it e. subst ProblemFits (sym e) (question_is_problem c.args.policy.now c.args.ctx.now c.args.trace.now c.args.query.now h)) c.of_question.ensures
