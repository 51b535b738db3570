use Rattle.ba_classes.proofs.ChainLemmas.{shown_is_true}
use Rattle.ba_classes.proofs.laws.shown_is_true.Goals as goal

pub returns : goal.returns
returns c = shown_is_true
