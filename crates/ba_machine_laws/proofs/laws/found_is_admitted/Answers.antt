use Rattle.ba_machine_laws.proofs.ShelfLemmas.{found_is_admitted}
use Rattle.ba_machine_laws.proofs.laws.found_is_admitted.Goals as goal

pub returns : goal.returns
returns c = found_is_admitted
