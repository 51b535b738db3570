use Rattle.std.proofs.Common.{ℤ, ◌≤ℤ◌, ◌<ℤ◌, Contains}
use Rattle.ba_classes.proofs.UnusedLemmas.{count_from}
use Rattle.ba_refute.proofs.used.Used.least_from.Given as goal

abbrev pub invariant-loop-number : goal.invariant-loop-number
invariant-loop-number l =
    (l.low ≤ℤ l.number) × ((n : ℤ) → l.low ≤ℤ n → n <ℤ l.number → Contains l.self n)

abbrev pub decreases-loop-number : goal.decreases-loop-number
decreases-loop-number l = count_from l.number l.self
