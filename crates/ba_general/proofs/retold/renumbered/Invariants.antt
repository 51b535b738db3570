use Rattle.std.proofs.Common.{take}
use Rattle.std.specs.List.{AllZip}
use Rattle.ba_general.specs.Retold.{IsRenumbered}
use Rattle.ba_general.proofs.retold.renumbered.Given as goal

abbrev pub invariant-loop-step : goal.invariant-loop-step
invariant-loop-step l = AllZip (IsRenumbered l.numbers) (take l.step-index l.step-items) l.all
