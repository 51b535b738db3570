use Rattle.std.proofs.Common.{◌≡◌, ◌+◌, ◌≤◌, ℕ, length}
use Rattle.ba_top.specs.Evidence.{trace_at}
use Rattle.ba_top.proofs.requests.grow.Given as goal

abbrev pub invariant-loop : goal.invariant-loop
invariant-loop l = ((n : ℕ) → trace_at l.traces.items n ≡ trace_at l.fn.traces.items n) × (l.counter ≤ length l.traces.items)
