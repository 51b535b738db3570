use Rattle.ba_match.proofs.OneLemmas.{one_first_match}
use Rattle.ba_match.proofs.laws.first_match_is_one.Goals as goal

pub returns : goal.returns
returns c = one_first_match
