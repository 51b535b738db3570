use Rattle.ba_printed.proofs.BackLemmas.{answer_back}
use Rattle.ba_printed.proofs.laws.answers_read_back.Goals as goal

pub returns : goal.returns
returns c = answer_back
