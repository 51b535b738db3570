use Rattle.ba_general.proofs.OwnMatchLemmas.{own_matches}
use Rattle.ba_general.proofs.laws.own_question_matches.Goals as goal

pub returns : goal.returns
returns c = own_matches
