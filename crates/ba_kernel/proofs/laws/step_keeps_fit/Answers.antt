use Rattle.ba_kernel.proofs.CaseLemmas.{case_keeps_fit}
use Rattle.ba_kernel.proofs.StepLemmas.{step_keeps_fit}
use Rattle.ba_kernel.proofs.laws.step_keeps_fit.Goals as goal

pub returns : goal.returns
returns c =
    step_keeps_fit c.shown_is_true_of_values.ensures c.not_null_is_true.ensures c.same_is_true.ensures c.absurd_has_no_fit.ensures case_keeps_fit
