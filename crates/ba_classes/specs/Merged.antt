-- Terms numbered from 0, some of them merged, and which of them the merges connect.
use Rattle.std.specs.Prelude.{◌≡◌, ℕ, ◌<◌, ◌≤◌, List, Contains, length, slice_index}

-- how many terms there are, and the pairs of them that were merged
pub record Merged : Type 0 where
  pub terms : ℕ
  pub merges : List (ℕ × ℕ)

-- the merges connect two terms: the least equivalence that has every merge
pub data Connected (merges : List (ℕ × ℕ)) : ℕ → ℕ → Type 0 where
  merged : {a b : ℕ} → Contains merges (a, b) → Connected merges a b
  itself : {a : ℕ} → Connected merges a a
  turned : {a b : ℕ} → Connected merges a b → Connected merges b a
  joined : {a b c : ℕ} → Connected merges a b → Connected merges b c → Connected merges a c

-- the least term that the merges connect with a
pub record IsLabel (merges : List (ℕ × ℕ)) (a label : ℕ) : Type 0 where
  pub connected : Connected merges a label
  pub least : (b : ℕ) → Connected merges a b → label ≤ b

-- each term's label is connected with it and not above it; a merge is of two terms, which have one label
pub record IsLabelling (labels : List ℕ) (merges : List (ℕ × ℕ)) : Type 0 where
  pub connected : (a : ℕ) → a < length labels → Connected merges a (slice_index labels a)
  pub below : (a : ℕ) → a < length labels → slice_index labels a ≤ a
  pub within : (a b : ℕ) → Contains merges (a, b) → (a < length labels) × (b < length labels)
  pub kept : (a b : ℕ) → Contains merges (a, b) → slice_index labels a ≡ slice_index labels b
