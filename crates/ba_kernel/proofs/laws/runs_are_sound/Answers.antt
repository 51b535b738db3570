use Rattle.ba_kernel.proofs.CourseLemmas.{runs_are_sound}
use Rattle.ba_kernel.proofs.laws.runs_are_sound.Goals as goal

pub returns : goal.returns
returns c = runs_are_sound c.step_keeps_fit.ensures
