-- What is known of the chains from one node to another: the greatest of their sums.
use Rattle.std.specs.Prelude.{ℕ, ℤ, pos, neg_ℤ, ◌+ℤ◌, ◌≤ℤ◌, Bool, if◌then◌else◌}
use Rattle.std.specs.Int.{int_max}
use Rattle.ba_classes.specs.declared.best.Best.{Best}
use Rattle.ba_classes.specs.declared.best.Best.TheVariants.{Absent, Sum, Unbounded}

-- some chain sums to at least k
abbrev pub Reaches : Best → ℤ → Type 0
Reaches Absent k = ⊥
Reaches (Sum s) k = k ≤ℤ s
Reaches Unbounded k = Unit {0}

-- a sum is at most n away from 0
abbrev pub IsWithin : ℕ → Best → Type 0
IsWithin n Absent = Unit {0}
IsWithin n (Sum s) = (neg_ℤ (pos n) ≤ℤ s) × (s ≤ℤ pos n)
IsWithin n Unbounded = Unit {0}

-- the best of two sets of chains
abbrev pub better : Best → Best → Best
better Absent b = b
better (Sum i) Absent = Sum i
better (Sum i) (Sum j) = Sum (int_max i j)
better (Sum i) Unbounded = Unbounded
better Unbounded b = Unbounded

-- the best of the chains that go on by one of a second set
abbrev pub joined : Best → Best → Best
joined Absent b = Absent
joined (Sum i) Absent = Absent
joined (Sum i) (Sum j) = Sum (i +ℤ j)
joined (Sum i) Unbounded = Unbounded
joined Unbounded Absent = Absent
joined Unbounded (Sum j) = Unbounded
joined Unbounded Unbounded = Unbounded

-- with the empty chain, where the nodes are one
abbrev pub or_nothing : Bool → Best → Best
or_nothing one b = if one then better b (Sum (pos 0)) else b
