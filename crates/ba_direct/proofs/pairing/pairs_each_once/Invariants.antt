use Rattle.std.proofs.Common.{◌≡◌, ℕ, ◌<◌, count_by}
use Rattle.std.specs.Prelude.{◌==◌}
use Rattle.ba_direct.proofs.pairing.pairs_each_once.Given as goal

-- the places so far are paired once
abbrev pub invariant-loop-place : goal.invariant-loop-place
invariant-loop-place l = (place : ℕ) → place < l.place → count_by (λ i. i == place) l.to ≡ 1
