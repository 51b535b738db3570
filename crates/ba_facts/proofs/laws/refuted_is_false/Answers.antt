use Rattle.ba_facts.proofs.LawLemmas.{refuted_is_false}
use Rattle.ba_facts.proofs.laws.refuted_is_false.Goals as goal

pub returns : goal.returns
returns c = refuted_is_false
