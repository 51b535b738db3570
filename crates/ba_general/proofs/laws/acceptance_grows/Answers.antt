use Rattle.ba_general.proofs.AcceptedLemmas.{acceptance_grows}
use Rattle.ba_general.proofs.laws.acceptance_grows.Goals as goal

pub returns : goal.returns
returns c = acceptance_grows
