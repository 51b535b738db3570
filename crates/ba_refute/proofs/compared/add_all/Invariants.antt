use Rattle.std.proofs.Common.{ℕ, Contains, take, ◌⊎◌}
use Rattle.ba_refute.proofs.compared.add_all.Given as goal

abbrev pub invariant-loop-unknown : goal.invariant-loop-unknown
invariant-loop-unknown l = (n : ℕ) → Contains l.fn.found.keys n ⊎ Contains (take l.unknown-index l.unknowns) n → Contains l.found.keys n
