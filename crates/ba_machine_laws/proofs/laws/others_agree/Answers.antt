use Rattle.ba_machine_laws.proofs.OtherLemmas.{others_agree}
use Rattle.ba_machine_laws.proofs.laws.others_agree.Goals as goal

pub returns : goal.returns
returns c = others_agree
