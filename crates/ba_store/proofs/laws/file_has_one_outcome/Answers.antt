use Rattle.ba_store.proofs.OutcomeLemmas.{one_outcome}
use Rattle.ba_store.proofs.laws.file_has_one_outcome.Goals as goal

pub returns : goal.returns
returns c = one_outcome
