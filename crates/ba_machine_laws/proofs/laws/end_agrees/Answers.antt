use Rattle.ba_machine_laws.proofs.AgreeLemmas.{end_agrees}
use Rattle.ba_machine_laws.proofs.laws.end_agrees.Goals as goal

pub returns : goal.returns
returns c = end_agrees
