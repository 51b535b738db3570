use Rattle.std.proofs.Common.{take}
use Rattle.std.specs.List.{AllZip}
use Rattle.ba_core.specs.Grounds.{Supports}
use Rattle.ba_core.specs.Steps.{Fits}
use Rattle.ba_core.proofs.ground.all_fit.Given as goal

abbrev pub invariant-loop-i : goal.invariant-loop-i
invariant-loop-i l = AllZip (Fits l.policy l.templates l.asker) (take l.i l.queries) (take l.i l.grounds) × AllZip (Supports l.policy l.asker) (take l.i l.queries) (take l.i l.grounds)
