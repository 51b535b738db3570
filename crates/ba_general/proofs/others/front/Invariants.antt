use Rattle.std.proofs.Common.{◌≡◌, take}
use Rattle.ba_general.proofs.others.front.Given as goal

-- the copies so far are the steps so far
abbrev pub invariant-loop-step : goal.invariant-loop-step
invariant-loop-step l = l.all ≡ take l.step-index l.step-items
