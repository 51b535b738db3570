use Rattle.ba_kernel.specs.Steps.{RuleRefuses}
use Rattle.ba_kernel.proofs.passes.part.test_rule.Goals as goal

pub returns-in_default : goal.returns-in_default
returns-in_default c = RuleRefuses.no_part c.in_default.ensures

pub returns-in_default-side_of : goal.returns-in_default-side_of
returns-in_default-side_of c = RuleRefuses.no_side c.in-Some.ensures c.in_default-side_of.ensures

pub returns-in-Some-first_hidden : goal.returns-in-Some-first_hidden
returns-in-Some-first_hidden c = RuleRefuses.hidden c.in-Some-side_of._side c.in-Some.ensures c.in-Some-side_of.ensures c.in-Some-first_hidden.ensures
