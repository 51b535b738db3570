use Rattle.ba_general.proofs.FullLemmas.{full_is_accepted}
use Rattle.ba_general.proofs.laws.full_is_accepted.Goals as goal

pub returns : goal.returns
returns c = full_is_accepted
