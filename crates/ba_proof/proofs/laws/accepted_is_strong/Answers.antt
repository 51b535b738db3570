use Rattle.ba_proof.proofs.CheckLemmas.{accepted_strong}
use Rattle.ba_proof.proofs.laws.accepted_is_strong.Goals as goal

pub returns : goal.returns
returns c = accepted_strong
