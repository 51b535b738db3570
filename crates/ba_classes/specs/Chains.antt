-- Facts `low + gap <= high` over whole numbers, and what follows from them by addition.
use Rattle.std.specs.Prelude.{ℕ, ℤ, pos, ◌+ℤ◌, ◌≤ℤ◌, ◌<ℤ◌, List, Contains}
use Rattle.ba_classes.specs.declared.order.Difference.{Difference}

-- a chain of the facts from one node to another: each of its facts begins where the one before it ends. Its sum is that of their gaps
pub data Chain (facts : List Difference) : ℕ → ℤ → ℕ → Type 0 where
  none : {x : ℕ} → Chain facts x (pos 0) x
  first : (f : Difference) {k : ℤ} {y : ℕ} → Contains facts f → Chain facts f.high k y → Chain facts f.low (f.gap +ℤ k) y

-- the facts show that x plus k is at most y: a chain of them from x to y sums to at least k
pub record Shows (facts : List Difference) (x : ℕ) (k : ℤ) (y : ℕ) : Type 0 where
  pub sum : ℤ
  pub enough : k ≤ℤ sum
  pub chain : Chain facts x sum y

-- a chain of the facts from a node to itself sums above 0, so that no whole numbers make them true
pub record IsAbsurd (facts : List Difference) : Type 0 where
  pub node : ℕ
  pub sum : ℤ
  pub above : pos 0 <ℤ sum
  pub chain : Chain facts node sum node

-- the nodes' values make the facts true
pub record Satisfies (facts : List Difference) (value : ℕ → ℤ) : Type 0 where
  pub each : (f : Difference) → Contains facts f → (value f.low +ℤ f.gap) ≤ℤ value f.high

-- whatever values make the facts true make true what the facts show
abbrev pub ShownIsTrue : Type 0
ShownIsTrue = (facts : List Difference) (value : ℕ → ℤ) → Satisfies facts value → (x y : ℕ) (k : ℤ) → Shows facts x k y → (value x +ℤ k) ≤ℤ value y

-- no values make absurd facts true
abbrev pub AbsurdHasNoValues : Type 0
AbsurdHasNoValues = (facts : List Difference) (value : ℕ → ℤ) → Satisfies facts value → ¬ (IsAbsurd facts)
