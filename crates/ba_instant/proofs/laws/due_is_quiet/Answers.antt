use Rattle.ba_instant.proofs.QuietLemmas.{due_is_quiet}
use Rattle.ba_instant.proofs.laws.due_is_quiet.Goals as goal

pub returns : goal.returns
returns c = due_is_quiet
