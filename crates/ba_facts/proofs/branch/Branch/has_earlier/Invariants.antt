use Rattle.std.proofs.Common.{◌<◌}
use Rattle.std.specs.Prelude.{ℕ}
use Rattle.ba_facts.specs.Walks.{DoesAsWell}
use Rattle.ba_facts.proofs.branch.Branch.has_earlier.Given as goal

-- none so far is
abbrev pub invariant-loop-other : goal.invariant-loop-other
invariant-loop-other l = (other : ℕ) → other < l.other → DoesAsWell l.self l.number other → ⊥
