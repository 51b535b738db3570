use Rattle.std.proofs.Common.{◌≡◌, take}
use Rattle.std.specs.List.{flat_map}
use Rattle.ba_general.specs.Leaving.{named_of_cases}
use Rattle.ba_general.proofs.staying.entries_of_cases.Given as goal

abbrev pub invariant-loop-step : goal.invariant-loop-step
invariant-loop-step l = l.numbers.items ≡ flat_map (named_of_cases l.problem) (take l.step-index l.step-items)
