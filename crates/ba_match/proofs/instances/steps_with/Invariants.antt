use Rattle.std.proofs.Common.{◌≡◌, take}
use Rattle.ba_match.specs.Instances.{steps_with}
use Rattle.ba_match.proofs.instances.steps_with.Given as goal

abbrev pub invariant-loop-step : goal.invariant-loop-step
invariant-loop-step l = l.all.items ≡ steps_with l.values l.numbers (take l.step-index l.steps)
