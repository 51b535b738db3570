use Rattle.std.proofs.Common.{◌≡◌, ℕ, ◌+◌, ◌*◌}
use Rattle.ba_cache.specs.Passes.{AreFree, OnEach}
use Rattle.ba_base_tests.specs.Callers.{HasLeft}
use Rattle.ba_base_tests.proofs.tests.cache.calls.Given as goal

abbrev pub invariant-loop-turn : goal.invariant-loop-turn
invariant-loop-turn g l = record {
  free : AreFree l.cache l.pass;
  left : (n : ℕ) → n + 3 * l.turn ≡ 12 → OnEach (HasLeft n) l.pass;
}
