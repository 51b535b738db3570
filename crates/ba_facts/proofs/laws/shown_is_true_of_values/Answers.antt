use Rattle.ba_facts.proofs.LawLemmas.{shown_is_true_of_values}
use Rattle.ba_facts.proofs.laws.shown_is_true_of_values.Goals as goal

pub returns : goal.returns
returns c = shown_is_true_of_values
