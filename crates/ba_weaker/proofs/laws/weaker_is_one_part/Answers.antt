use Rattle.ba_weaker.proofs.LawLemmas.{weaker_is_one_part}
use Rattle.ba_weaker.proofs.laws.weaker_is_one_part.Goals as goal

pub returns : goal.returns
returns c = weaker_is_one_part
