use Rattle.ba_proof.proofs.StepLemmas.{null_no_term}
use Rattle.ba_proof.proofs.laws.null_is_no_term.Goals as goal

pub returns : goal.returns
returns c = null_no_term
