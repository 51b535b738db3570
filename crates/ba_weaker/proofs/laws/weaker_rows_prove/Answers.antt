use Rattle.ba_weaker.proofs.LawLemmas.{weaker_rows_prove}
use Rattle.ba_weaker.proofs.laws.weaker_rows_prove.Goals as goal

pub returns : goal.returns
returns c = weaker_rows_prove
