use Rattle.ba_kernel.proofs.TestLemmas.{not_both}
use Rattle.ba_kernel.proofs.passes.passed_is_not_refused.Goals as goal

pub returns : goal.returns
returns c = not_both
