use Rattle.ba_general.proofs.AcceptedLemmas.{pass_is_minimal}
use Rattle.ba_general.proofs.laws.pass_is_minimal.Goals as goal

pub returns : goal.returns
returns c = pass_is_minimal
