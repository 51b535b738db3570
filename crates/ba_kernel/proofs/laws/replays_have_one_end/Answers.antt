use Rattle.ba_kernel.proofs.OneEnd.{one_end}
use Rattle.ba_kernel.proofs.laws.replays_have_one_end.Goals as goal

pub returns : goal.returns
returns c = one_end
