use Rattle.ba_kernel.proofs.CaseLemmas.{case_keeps_fit}
use Rattle.ba_kernel.proofs.laws.case_keeps_fit.Goals as goal

pub returns : goal.returns
returns c = case_keeps_fit
