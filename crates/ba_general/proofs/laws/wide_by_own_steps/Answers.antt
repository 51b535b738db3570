use Rattle.ba_general.proofs.OwnStepsLemmas.{by_own_steps}
use Rattle.ba_general.proofs.laws.wide_by_own_steps.Goals as goal

pub returns : goal.returns
returns c = by_own_steps
