use Rattle.ba_kernel.proofs.CourseLemmas.{closed_is_strong}
use Rattle.ba_kernel.proofs.laws.closed_is_strong.Goals as goal

pub returns : goal.returns
returns c = closed_is_strong c.step_keeps_fit.ensures c.strong_has_no_violation.ensures
