use Rattle.std.proofs.Common.{ℤ, ◌≤ℤ◌, ◌<ℤ◌, Contains}
use Rattle.ba_classes.proofs.UnusedLemmas.{count_upto}
use Rattle.ba_refute.proofs.used.Used.greatest_upto.Given as goal

abbrev pub invariant-loop-number : goal.invariant-loop-number
invariant-loop-number l =
    (l.number ≤ℤ l.high) × ((n : ℤ) → l.number <ℤ n → n ≤ℤ l.high → Contains l.self n)

abbrev pub decreases-loop-number : goal.decreases-loop-number
decreases-loop-number l = count_upto l.number l.self
