use Rattle.ba_kernel.proofs.AskedLemmas.{question_is_problem}
use Rattle.ba_kernel.proofs.laws.question_is_problem.Goals as goal

pub returns : goal.returns
returns c = question_is_problem
