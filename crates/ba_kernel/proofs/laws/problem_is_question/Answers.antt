use Rattle.ba_kernel.proofs.QuestionLemmas.{problem_is_question}
use Rattle.ba_kernel.proofs.laws.problem_is_question.Goals as goal

pub returns : goal.returns
returns c = problem_is_question
