use Rattle.ba_facts.proofs.LawLemmas.{shown_is_true}
use Rattle.ba_facts.proofs.laws.shown_is_true.Goals as goal

pub returns : goal.returns
returns c = shown_is_true
