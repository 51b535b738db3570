use Rattle.ba_settle.proofs.PickLemmas.{due_one}
use Rattle.ba_settle.proofs.laws.due_lists_are_one.Goals as goal

pub returns : goal.returns
returns c = λ pick p taken others slots ends fits. due_one pick p fits taken others slots ends
