-- The numbers that a seed draws.
use Rattle.std.specs.Prelude.{ℕ, zero, suc, ◌+◌, ◌*◌, ◌/◌, ◌%◌, ◌^◌}

-- the state that follows a state
unfoldable pub next : ℕ → ℕ
next x = (x * 6364136223846793005 + 1442695040888963407) % 2 ^ 64

-- the number below n that a state gives
unfoldable pub drawn : ℕ → ℕ → ℕ
drawn n x = x / 2 ^ 33 % n

-- the state after so many draws; the seed is that before the first
abbrev pub state_after : ℕ → ℕ → ℕ
state_after seed zero = seed
state_after seed (suc i) = next (state_after seed i)

-- draw i of the seed, from 0, which is below n
abbrev pub draw : ℕ → ℕ → ℕ → ℕ
draw seed i n = drawn n (state_after seed (i + 1))
