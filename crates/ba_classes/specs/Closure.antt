-- The best sum of the chains between any two nodes, kept in cells.
use Rattle.std.specs.Prelude.{◌≡◌, ℕ, ℤ, pos, neg_ℤ, ◌≤ℤ◌, ◌<◌, ◌^◌, List, All, IsTrue, Bool, Some, ◌↔◌, nat_eq, if◌then◌else◌}
use Rattle.ba_classes.specs.Best.{Reaches, or_nothing}
use Rattle.ba_classes.specs.Chains.{Shows, IsAbsurd}
use Rattle.ba_classes.specs.Grid.{Places, place_of, between}
use Rattle.ba_classes.specs.declared.best.Best.{Best}
use Rattle.ba_classes.specs.declared.best.Best.TheVariants.{Sum, Unbounded}
use Rattle.ba_classes.specs.declared.order.Difference.{Difference}

-- a cell, with the empty chain where the two nodes are one
abbrev pub reach : (ℕ → ℕ → Best) → ℕ → ℕ → Best
reach cell x y = or_nothing (nat_eq x y) (cell x y)

-- the cells reach what the facts show
pub record IsExact (facts : List Difference) (cell : ℕ → ℕ → Best) : Type 0 where
  pub sound : (x y : ℕ) (k : ℤ) → Reaches (reach cell x y) k → Shows facts x k y
  pub complete : (x y : ℕ) (k : ℤ) → Shows facts x k y → Reaches (reach cell x y) k

-- a fact's nodes are numbers of 32 bits, and its gap is at most n away from 0
pub record IsInRange (n : ℕ) (f : Difference) : Type 0 where
  pub low : f.low < 2 ^ 32
  pub high : f.high < 2 ^ 32
  pub above : neg_ℤ (pos n) ≤ℤ f.gap
  pub below : f.gap ≤ℤ pos n

-- the best of the chains that begin and end with a fact of this gap: there are ones of any sum where it gains with a way back
abbrev pub through : Bool → ℤ → Best
through gains gap = if gains then Unbounded else Sum gap

-- a node that has the place
pub record HasPlace (places : Places) (p : ℕ) : Type 0 where
  pub node : ℕ
  pub small : node < 2 ^ 32
  pub placed : place_of places node ≡ Some p

-- the cells and the flag say what follows from the facts, which are in range, and each place is a node's
pub record IsClosure (facts : List Difference) (places : Places) (rows : List (List Best)) (is_absurd : Bool) : Type 0 where
  pub in_range : All (IsInRange (2 ^ 66)) facts
  pub named : (p : ℕ) → p < places.count → HasPlace places p
  pub exact : IsExact facts (between places rows)
  pub flag : IsTrue is_absurd ↔ IsAbsurd facts
