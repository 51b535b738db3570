use Rattle.ba_facts.proofs.LawLemmas.{not_null_is_true}
use Rattle.ba_facts.proofs.laws.not_null_is_true.Goals as goal

pub returns : goal.returns
returns c = not_null_is_true
