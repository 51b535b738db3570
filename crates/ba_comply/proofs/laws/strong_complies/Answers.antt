use Rattle.ba_comply.proofs.ComplyLemmas.{strong_complies}
use Rattle.ba_comply.proofs.laws.strong_complies.Goals as goal

pub returns : goal.returns
returns c = strong_complies
