use Rattle.ba_general.proofs.OneRestLemmas.{kept_one}
use Rattle.ba_general.proofs.laws.kept_are_one.Goals as goal

pub returns : goal.returns
returns c = kept_one
