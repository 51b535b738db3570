use Rattle.ba_comply.proofs.ComplyLemmas.{answer_everywhere}
use Rattle.ba_comply.proofs.laws.answer_everywhere.Goals as goal

pub returns : goal.returns
returns c = answer_everywhere
