-- Nodes that the facts tie to node 0: each is node 0 and so much more.
use Rattle.std.specs.Prelude.{◌≡◌, ℕ, ℤ, pos, neg_ℤ, ◌+ℤ◌, ◌-ℤ◌, ◌≤ℤ◌, ◌^◌, List, All, map, Option, Some, None, Bool, nat_eq}
use Rattle.std.specs.HashMap.{HashMap, get}
use Rattle.std.specs.declared.hash.FoldHasher.{FoldHasher}
use Rattle.std.specs.declared.hash.BuildHasherDefault.{BuildHasherDefault}
use Rattle.ba_classes.specs.Chains.{Shows}
use Rattle.ba_classes.specs.Closure.{IsInRange, IsClosure}
use Rattle.ba_classes.specs.Grid.{Places}
use Rattle.ba_classes.specs.declared.best.Best.{Best}
use Rattle.ba_classes.specs.declared.order.Difference.{Difference}

-- the values of the tied nodes
abbrev pub Values : Type 0
Values = HashMap ℕ ℤ (BuildHasherDefault FoldHasher)

abbrev pub value_of : Values → ℕ → Option ℤ
value_of values node = get nat_eq values node

-- the node over which a node is so much more: node 0 and its value where it is tied, else itself and nothing
abbrev pub base_of : Option ℤ → ℕ → ℕ
base_of None n = n
base_of (Some v) n = 0

abbrev pub offset_of : Option ℤ → ℤ
offset_of None = pos 0
offset_of (Some v) = v

-- each value is at most 2 ^ 64 away from 0
pub record AreSmall (value : ℕ → Option ℤ) : Type 0 where
  pub above : (n : ℕ) (v : ℤ) → value n ≡ Some v → neg_ℤ (pos (2 ^ 64)) ≤ℤ v
  pub below : (n : ℕ) (v : ℤ) → value n ≡ Some v → v ≤ℤ pos (2 ^ 64)

-- the fact that says the same where tied nodes are written over node 0
abbrev pub based : (ℕ → Option ℤ) → Difference → Difference
based value f = record {
  low = base_of (value f.low) f.low;
  gap = (offset_of (value f.low) +ℤ f.gap) -ℤ offset_of (value f.high);
  high = base_of (value f.high) f.high;
}

-- the facts show that a node, which isn't node 0, is v
pub record IsTied (facts : List Difference) (n : ℕ) (v : ℤ) : Type 0 where
  pub other : ¬ (n ≡ 0)
  pub at_least : Shows facts 0 v n
  pub at_most : Shows facts n (neg_ℤ v) 0

-- the facts are in range and tie the tied nodes, and the cells and the flag are the closure of the facts without them
pub record IsOrder (facts : List Difference) (value : ℕ → Option ℤ) (places : Places) (rows : List (List Best)) (is_absurd : Bool) : Type 0 where
  pub in_range : All (IsInRange (2 ^ 65)) facts
  pub are_tied : (n : ℕ) (v : ℤ) → value n ≡ Some v → IsTied facts n v
  pub closure : IsClosure (map (based value) facts) places rows is_absurd
