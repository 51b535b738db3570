use Rattle.std.proofs.Common.{ℤ, ◌≤ℤ◌, ◌<ℤ◌, Contains}
use Rattle.ba_classes.proofs.UnusedLemmas.{count_from}
use Rattle.ba_classes.proofs.image.least_unused.Given as goal

abbrev pub invariant-loop-number : goal.invariant-loop-number
invariant-loop-number l =
    (l.low ≤ℤ l.number) × ((n : ℤ) → l.low ≤ℤ n → n <ℤ l.number → Contains l.used n)

abbrev pub decreases-loop-number : goal.decreases-loop-number
decreases-loop-number l = count_from l.number l.used
