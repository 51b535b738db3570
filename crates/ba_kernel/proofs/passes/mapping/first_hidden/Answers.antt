use Rattle.ba_kernel.proofs.PassLemmas.{first_without}
use Rattle.ba_kernel.proofs.passes.mapping.first_hidden.Goals as goal

pub returns : goal.returns
returns c = first_without _ _ _ c.undecided.result c.undecided.ensures
