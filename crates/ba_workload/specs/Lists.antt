-- Lists of what each of some numbers gives.
use Rattle.std.specs.Prelude.{ℕ, List, map}
use Rattle.std.specs.List.{flat_map, range_with_len}

-- what n numbers from the first on give, one each
unfoldable pub each_of : {X : Type 0} → (ℕ → X) → ℕ → ℕ → List X
each_of one first n = map one (range_with_len first n)

-- or some each, one list behind the other
unfoldable pub all_of : {X : Type 0} → (ℕ → List X) → ℕ → ℕ → List X
all_of some first n = flat_map some (range_with_len first n)
