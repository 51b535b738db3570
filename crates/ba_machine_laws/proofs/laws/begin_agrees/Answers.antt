use Rattle.ba_machine_laws.proofs.AgreeLemmas.{begin_agrees}
use Rattle.ba_machine_laws.proofs.laws.begin_agrees.Goals as goal

pub returns : goal.returns
returns c = begin_agrees
