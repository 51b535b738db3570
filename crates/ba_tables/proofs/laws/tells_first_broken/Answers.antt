use Rattle.ba_tables.proofs.CheckedLemmas.{tells_first_broken}
use Rattle.ba_tables.proofs.laws.tells_first_broken.Goals as goal

pub returns : goal.returns
returns c = tells_first_broken
