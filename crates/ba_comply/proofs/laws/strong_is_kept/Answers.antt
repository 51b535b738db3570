use Rattle.ba_comply.proofs.ComplyLemmas.{strong_is_kept}
use Rattle.ba_comply.proofs.laws.strong_is_kept.Goals as goal

pub returns : goal.returns
returns c = strong_is_kept
