use Rattle.ba_machine_laws.proofs.StandingLemmas.{askers_stand}
use Rattle.ba_machine_laws.proofs.laws.askers_stand.Goals as goal

pub returns : goal.returns
returns c = askers_stand
