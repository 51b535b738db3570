use Rattle.std.proofs.Common.{◌≡◌, ◌<◌, ℕ}
use Rattle.std.specs.Prelude.{Some, slice_get}
use Rattle.ba_instant.proofs.asked.Asking.leaves_fact.Given as goal
use Rattle.ba_instant.specs.QuietKeys.{LeavesRow}

-- so it is of the places so far
abbrev pub invariant-loop-place : goal.invariant-loop-place
invariant-loop-place l =
    (q : ℕ) → q < l.place → slice_get l.from q ≡ Some l.fact.table → LeavesRow l.self.known.now l.self.moves.now l.self.asked.now l.self.part.now q l.fact.terms
