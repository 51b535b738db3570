use Rattle.ba_weaker.proofs.LawLemmas.{weaker_is_shown}
use Rattle.ba_weaker.proofs.laws.weaker_is_shown.Goals as goal

pub returns : goal.returns
returns c = weaker_is_shown
