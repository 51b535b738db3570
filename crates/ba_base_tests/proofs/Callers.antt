-- What passes of a cache may still call, in tests.
use Rattle.std.proofs.Common.{ℕ, ◌≤◌, arith}
use Rattle.ba_cache.specs.Passes.{OnEach}
use Rattle.ba_cache.specs.declared.cache.CachePass.{CachePass}
use Rattle.ba_base_tests.specs.Callers.{HasLeft}

pub fewer : (n m : ℕ) (p : CachePass) → m ≤ n → OnEach (HasLeft n) p → OnEach (HasLeft m) p
fewer n m p less has = record { each = λ k low. let here = has.each k low in omega arith }
