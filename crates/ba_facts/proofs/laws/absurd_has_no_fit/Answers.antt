use Rattle.ba_facts.proofs.LawLemmas.{absurd_has_no_fit}
use Rattle.ba_facts.proofs.laws.absurd_has_no_fit.Goals as goal

pub returns : goal.returns
returns c = absurd_has_no_fit
