use Rattle.ba_answer_tests.proofs.JoinLemmas.{seven_steps}
use Rattle.ba_answer_tests.proofs.laws.join_in_seven_steps.Goals as goal

pub returns : goal.returns
returns c = seven_steps
