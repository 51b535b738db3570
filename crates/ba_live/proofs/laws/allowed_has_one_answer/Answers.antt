use Rattle.ba_live.proofs.ToldLemmas.{allowed_has_one_answer}
use Rattle.ba_live.proofs.laws.allowed_has_one_answer.Goals as goal

pub returns : goal.returns
returns c = allowed_has_one_answer
