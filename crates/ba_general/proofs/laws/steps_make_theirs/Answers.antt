use Rattle.ba_general.proofs.MakesLemmas.{make_theirs}
use Rattle.ba_general.proofs.laws.steps_make_theirs.Goals as goal

pub returns : goal.returns
returns c = make_theirs
