use Rattle.std.proofs.Common.{◌∙◌, subst, sym}
use Rattle.ba_core.proofs.AskLemmas.{proved_question}
use Rattle.ba_kernel.specs.Problems.{StrongAll}
use Rattle.ba_core.proofs.ground.proves.Goals as goal

pub returns-clause-strong : goal.returns-clause-strong
returns-clause-strong c = λ same.
    proved_question c.args.policy.now c.args.asker.now c.args.query.now c.args.proved.now.problem c.in_ok-question.question c.problem_is_question.ensures c.requires
    (subst StrongAll c.problem.ensures.is c.problem.ensures.strong) c.in_ok-question.ensures.is (sym c.problem.ensures.is ∙ c.same_problem.ensures.0 same)
