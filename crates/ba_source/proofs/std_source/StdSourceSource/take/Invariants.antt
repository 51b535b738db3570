use Rattle.std.proofs.Common.{◌≡◌}
use Rattle.ba_source.specs.StdSource.{IsWithin, ahead}
use Rattle.ba_source.proofs.StdLemmas.{Begun, Held}
use Rattle.ba_source.proofs.std_source.StdSourceSource.take.Given as goal

-- nothing is counted yet, so much is read of the line, and the reader was asked only where that was needed
abbrev pub invariant-loop : goal.invariant-loop
invariant-loop g l =
    (l.self.taken.value ≡ l.fn.self.taken.value) × (l.self.faults.value ≡ l.fn.self.faults.value) × IsWithin l.limit l.line
    × Begun l.limit (ahead g.R.Read.remaining l.fn.self) (ahead g.R.Read.remaining l.self) l.line l.is_begun
    × Held l.fn.self l.self l.is_begun
