-- Values for nodes, one after another, as the facts and the values before it allow.
use Rattle.std.specs.Prelude.{◌≡◌, ℕ, ◌<◌, ℤ, pos, ◌+ℤ◌, ◌≤ℤ◌, ◌<ℤ◌, List, ◌∷◌, ◌++◌, Contains, length, take, slice_index, slice_index_or, Option, None, Some, ◌⊎◌}
use Rattle.std.specs.Int.{int_max, int_min}
use Rattle.std.specs.List.{zip}
use Rattle.ba_classes.specs.Chains.{Shows}
use Rattle.ba_classes.specs.declared.order.Difference.{Difference}

-- the facts and the values of some nodes show that the node is at least c
pub record IsAtLeast (facts : List Difference) (valued : List (ℕ × ℤ)) (node : ℕ) (c : ℤ) : Type 0 where
  pub other : ℕ
  pub value : ℤ
  pub gap : ℤ
  pub has_value : Contains valued (other, value)
  pub shown : Shows facts other gap node
  pub enough : c ≤ℤ (value +ℤ gap)

-- the facts and the values of some nodes show that the node is at most c
pub record IsAtMost (facts : List Difference) (valued : List (ℕ × ℤ)) (node : ℕ) (c : ℤ) : Type 0 where
  pub other : ℕ
  pub value : ℤ
  pub gap : ℤ
  pub has_value : Contains valued (other, value)
  pub shown : Shows facts node gap other
  pub enough : value ≤ℤ (c +ℤ gap)

-- the greatest number of which P holds, if it holds of any
abbrev pub IsGreatest : (ℤ → Type 0) → Option ℤ → Type 0
IsGreatest P None = (c : ℤ) → P c → ⊥
IsGreatest P (Some m) = P m × ((c : ℤ) → P c → c ≤ℤ m)

-- the least number of which P holds, if it holds of any
abbrev pub IsLeast : (ℤ → Type 0) → Option ℤ → Type 0
IsLeast P None = (c : ℤ) → P c → ⊥
IsLeast P (Some m) = P m × ((c : ℤ) → P c → m ≤ℤ c)

-- the least number from low on that isn't used
pub record IsLeastUnused (used : List ℤ) (low value : ℤ) : Type 0 where
  pub from : low ≤ℤ value
  pub unused : ¬ (Contains used value)
  pub passed : (n : ℤ) → low ≤ℤ n → n <ℤ value → Contains used n

-- the greatest number up to high that isn't used
pub record IsGreatestUnused (used : List ℤ) (high value : ℤ) : Type 0 where
  pub upto : value ≤ℤ high
  pub unused : ¬ (Contains used value)
  pub passed : (n : ℤ) → value <ℤ n → n ≤ℤ high → Contains used n

-- every number from low to high is used
abbrev pub AllUsed : List ℤ → ℤ → ℤ → Type 0
AllUsed used low high = (n : ℤ) → low ≤ℤ n → n ≤ℤ high → Contains used n

-- the value of a node with these bounds, where there are any
abbrev pub IsValueBetween : List ℤ → Option ℤ → Option ℤ → ℤ → Type 0
IsValueBetween used None None value = IsLeastUnused used (pos 0) value
IsValueBetween used (Some low) None value = IsLeastUnused used low value
IsValueBetween used None (Some high) value = IsGreatestUnused used high value
IsValueBetween used (Some low) (Some high) value =
    (IsLeastUnused used low value × (value ≤ℤ high)) ⊎ (AllUsed used low high × (value ≡ low))

-- the value of a node, with the greatest lower and the least upper bound that are shown
pub record IsValue (facts : List Difference) (valued : List (ℕ × ℤ)) (used : List ℤ) (node : ℕ) (value : ℤ) : Type 0 where
  pub low : Option ℤ
  pub high : Option ℤ
  pub low_is : IsGreatest (IsAtLeast facts valued node) low
  pub high_is : IsLeast (IsAtMost facts valued node) high
  pub between : IsValueBetween used low high value

-- node 0, whose value is 0, and the nodes with their values
abbrev pub with_zero : List ℕ → List ℤ → List (ℕ × ℤ)
with_zero nodes values = (0, pos 0) ∷ zip nodes values

-- each node has its value, where node 0 and the nodes before it have theirs, and the values before it are used too
pub record IsImage (facts : List Difference) (used : List ℤ) (nodes : List ℕ) (values : List ℤ) : Type 0 where
  pub len : length values ≡ length nodes
  pub each : (i : ℕ) → i < length nodes →
      IsValue facts (with_zero (take i nodes) (take i values)) (used ++ take i values) (slice_index nodes i) (slice_index_or values i (pos 0))

-- the values make true what the facts show of their nodes
pub record Meets (facts : List Difference) (valued : List (ℕ × ℤ)) : Type 0 where
  pub each : (x y : ℕ) (v w k : ℤ) → Contains valued (x, v) → Contains valued (y, w) → Shows facts x k y → (v +ℤ k) ≤ℤ w

-- the greater or the lesser of a bound, if there is one, and a number
abbrev pub greater_of : Option ℤ → ℤ → ℤ
greater_of None n = n
greater_of (Some m) n = int_max m n

abbrev pub lesser_of : Option ℤ → ℤ → ℤ
lesser_of None n = n
lesser_of (Some m) n = int_min m n
