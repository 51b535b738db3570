use Rattle.ba_weaker.proofs.LawLemmas.{weaker_has_rows}
use Rattle.ba_weaker.proofs.laws.weaker_has_rows.Goals as goal

pub returns : goal.returns
returns c = weaker_has_rows
