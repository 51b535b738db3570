-- Counts of 64 bits, which never fall and stop at their last value.
use Rattle.std.specs.Prelude.{◌≡◌, ◌⊎◌, ℕ, ◌+◌, ◌-◌, ◌^◌, ◌<◌, ◌≤◌}

-- the last value of a count
abbrev pub last_count : ℕ
last_count = 2 ^ 64 - 1

-- the count didn't fall, and is one of 64 bits
abbrev pub NeverFalls : ℕ → ℕ → Type 0
NeverFalls before now = (before ≤ now) × (now ≤ last_count)

-- the count is greater than before, or stands at its last value
abbrev pub Rose : ℕ → ℕ → Type 0
Rose before now = (before < now) ⊎ (now ≡ last_count)

-- the count rose by more than this, or stands at its last value
abbrev pub RoseBeyond : ℕ → ℕ → ℕ → Type 0
RoseBeyond amount before now = (before + amount < now) ⊎ (now ≡ last_count)
