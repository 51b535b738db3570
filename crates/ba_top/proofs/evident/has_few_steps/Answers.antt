use Rattle.std.proofs.Common.{◌≤◌, length, subst}
use Rattle.ba_model.specs.Limits.{most_steps}
use Rattle.ba_top.proofs.evident.has_few_steps.Goals as goal

pub returns : goal.returns
returns c = subst (λ z. length z ≤ most_steps) c.steps.ensures.is c.steps.ensures.template.proved.few
