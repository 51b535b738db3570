use Rattle.ba_comply.proofs.ComplyLemmas.{complies_has_one_answer}
use Rattle.ba_comply.proofs.laws.complies_has_one_answer.Goals as goal

pub returns : goal.returns
returns c = complies_has_one_answer
