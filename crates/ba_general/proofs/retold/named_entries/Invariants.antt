use Rattle.std.proofs.Common.{◌≡◌, take}
use Rattle.std.specs.List.{flat_map}
use Rattle.ba_general.specs.Retold.{named}
use Rattle.ba_general.proofs.retold.named_entries.Given as goal

abbrev pub invariant-loop-step : goal.invariant-loop-step
invariant-loop-step l = l.numbers.items ≡ flat_map named (take l.step-index l.step-items)
