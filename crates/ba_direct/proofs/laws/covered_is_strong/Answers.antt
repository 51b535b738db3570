use Rattle.ba_direct.proofs.CoverLemmas.{covered_is_strong}
use Rattle.ba_direct.proofs.laws.covered_is_strong.Goals as goal

pub returns : goal.returns
returns c = covered_is_strong
