use Rattle.ba_general.proofs.CourseLemmas.{laid_out}
use Rattle.ba_general.proofs.laws.runs_are_laid_out.Goals as goal

pub returns : goal.returns
returns c = laid_out
