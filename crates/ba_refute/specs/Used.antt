-- Numbers that are used.
use Rattle.std.specs.Prelude.{◌≡◌, ℤ, pos, ◌≤ℤ◌, ◌<ℤ◌, List, Contains, ◌↔◌, ◌⊎◌}

-- the two lists have the same numbers
abbrev pub HaveSame : List ℤ → List ℤ → Type 0
HaveSame used numbers = (n : ℤ) → Contains used n ↔ Contains numbers n

-- the new numbers are the old ones and this one
abbrev pub AreWith : List ℤ → ℤ → List ℤ → Type 0
AreWith old value new = (n : ℤ) → Contains new n ↔ (Contains old n ⊎ (n ≡ value))

-- each number from 0 up to below the end is used
abbrev pub AreAllBelow : List ℤ → ℤ → Type 0
AreAllBelow used end = (n : ℤ) → pos 0 ≤ℤ n → n <ℤ end → Contains used n
