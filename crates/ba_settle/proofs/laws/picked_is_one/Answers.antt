use Rattle.ba_settle.proofs.PickLemmas.{picked_one}
use Rattle.ba_settle.proofs.laws.picked_is_one.Goals as goal

pub returns : goal.returns
returns c = picked_one
