use Rattle.std.proofs.Common.{◌≡◌, ℕ, ◌<◌, Option, Some, map, slice_get}
use Rattle.std.specs.List.{zip}
use Rattle.ba_facts.specs.Matches.{AreTheSame, row_of}
use Rattle.ba_facts.specs.declared.term.Term.{Term}
use Rattle.ba_kernel.proofs.passes.head.first_different.Given as goal

-- the head is the same as the goal row in each column so far
abbrev pub invariant-loop-column : goal.invariant-loop-column
invariant-loop-column l =
    (k : ℕ) (two : Option Term × Option Term) → k < l.column →
    slice_get (zip (row_of l.branch l.facts l.head) (map Some l.branch.goal)) k ≡ Some two → AreTheSame l.branch.known two.0 two.1
