use Rattle.std.proofs.Common.{◌≡◌, ◌++◌}
use Rattle.ba_general.proofs.others.joined.Given as goal

-- those that were taken stand behind the front
abbrev pub invariant-loop-step : goal.invariant-loop-step
invariant-loop-step l = (l.all ≡ l.fn.front ++ l.yielded) × (l.yielded ++ l.step-iterator.rest.items ≡ l.fn.behind)
