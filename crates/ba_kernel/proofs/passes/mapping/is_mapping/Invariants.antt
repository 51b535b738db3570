use Rattle.std.proofs.Common.{ℕ, ◌<◌, get_or}
use Rattle.ba_facts.specs.Matches.{IsFactOf}
use Rattle.ba_kernel.proofs.passes.mapping.is_mapping.Given as goal

-- each table so far has a fact on the side
abbrev pub invariant-loop-i : goal.invariant-loop-i
invariant-loop-i l = (k : ℕ) → k < l.i → IsFactOf l.branch l.side (get_or l.from k 0) (get_or l.facts k 0)
