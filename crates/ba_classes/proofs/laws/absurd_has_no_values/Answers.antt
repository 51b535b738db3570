use Rattle.ba_classes.proofs.ChainLemmas.{absurd_has_no_values}
use Rattle.ba_classes.proofs.laws.absurd_has_no_values.Goals as goal

pub returns : goal.returns
returns c = absurd_has_no_values
