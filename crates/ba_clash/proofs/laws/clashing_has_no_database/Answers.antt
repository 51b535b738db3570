use Rattle.ba_clash.proofs.LawLemmas.{clashing_has_no_database}
use Rattle.ba_clash.proofs.laws.clashing_has_no_database.Goals as goal

pub returns : goal.returns
returns c = clashing_has_no_database
