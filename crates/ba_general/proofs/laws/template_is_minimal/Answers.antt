use Rattle.ba_general.proofs.MinimalLemmas.{template_is_minimal}
use Rattle.ba_general.proofs.laws.template_is_minimal.Goals as goal

pub returns : goal.returns
returns c = template_is_minimal
