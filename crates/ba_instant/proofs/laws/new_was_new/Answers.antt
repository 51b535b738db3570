use Rattle.ba_instant.proofs.QuietLemmas.{new_was_new}
use Rattle.ba_instant.proofs.laws.new_was_new.Goals as goal

pub returns : goal.returns
returns c = new_was_new
