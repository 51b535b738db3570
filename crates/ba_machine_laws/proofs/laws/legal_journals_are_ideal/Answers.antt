use Rattle.ba_lanes.proofs.IdealLemmas.{legal_is_ideal}
use Rattle.ba_machine_laws.proofs.laws.legal_journals_are_ideal.Goals as goal

pub returns : goal.returns
returns c = legal_is_ideal
