use Rattle.ba_live.proofs.FitLemmas.{entries_fit}
use Rattle.ba_live.proofs.laws.entries_fit.Goals as goal

pub returns : goal.returns
returns c = entries_fit
