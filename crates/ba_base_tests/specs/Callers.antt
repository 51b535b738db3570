-- What is known of a cache's passes on each shelf, in tests.
use Rattle.std.specs.Prelude.{◌≡◌, ℕ, ◌+◌, ◌≤◌, length}
use Rattle.ba_cache.specs.Passes.{ShelfKnown}

-- the pass may still make n calls
abbrev pub HasLeft : ℕ → ShelfKnown → Type 0
HasLeft n v = n ≤ v.left

-- the opening pass, to which n passes have still to come back
pub record Awaits (n : ℕ) (v : ShelfKnown) : Type 0 where
  pub opening : v.number ≡ 0
  pub splits : v.splits ≡ length v.joined + n
