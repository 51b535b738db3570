use Rattle.ba_facts.proofs.LawLemmas.{same_is_true}
use Rattle.ba_facts.proofs.laws.same_is_true.Goals as goal

pub returns : goal.returns
returns c = same_is_true
