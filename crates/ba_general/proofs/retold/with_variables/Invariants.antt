use Rattle.std.proofs.Common.{take}
use Rattle.std.specs.List.{AllZip}
use Rattle.ba_general.specs.Retold.{IsStepWith}
use Rattle.ba_general.proofs.retold.with_variables.Given as goal

abbrev pub invariant-loop-step : goal.invariant-loop-step
invariant-loop-step l = AllZip (IsStepWith l.values) (take l.step-index l.step-items) l.all
