use Rattle.ba_machine_laws.proofs.AgreeLemmas.{read_agrees}
use Rattle.ba_machine_laws.proofs.laws.read_agrees.Goals as goal

pub returns : goal.returns
returns c = read_agrees
