use Rattle.std.proofs.Common.{◌≡◌}
use Rattle.ba_proof.proofs.checking.taken.Given as goal

-- the steps so far were taken from the problem's start
abbrev pub invariant-loop-step : goal.invariant-loop-step
invariant-loop-step l =
    (goal.iterator-loop-step).can_next l.step-iterator × (goal.iterator-loop-step).is_finite l.step-iterator ×
    (l.search.problem ≡ l.fn.proof.problem) × (l.search.steps ≡ l.yielded)
