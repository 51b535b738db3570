-- What the best of two sets of chains, and of chains that go on, reaches.
use Rattle.std.proofs.Common.{◌≡◌, ℤ, pos, neg_ℤ, ◌+ℤ◌, ◌≤ℤ◌, refl, ◌⊎◌, inl, inr, arith}
use Rattle.std.proofs.lemmas.Int.{ints, clamps, by_lt_z}
use Rattle.ba_classes.specs.Best.{Reaches, better, joined}
use Rattle.ba_classes.specs.declared.best.Best.{Best}
use Rattle.ba_classes.specs.declared.best.Best.TheVariants.{Absent, Sum, Unbounded}

pub joined-Absent : (b : Best) → joined b Absent ≡ Absent
joined-Absent Absent = refl
joined-Absent (Sum i) = refl
joined-Absent Unbounded = refl

pub better-Absent : (b : Best) → better b Absent ≡ b
better-Absent Absent = refl
better-Absent (Sum i) = refl
better-Absent Unbounded = refl

-- the best of two sets reaches what either reaches
pub reaches_left : (a b : Best) (k : ℤ) → Reaches a k → Reaches (better a b) k
reaches_left Absent b k h = absurd h
reaches_left (Sum i) Absent k h = h
reaches_left (Sum i) (Sum j) k h = omega (arith, ints, clamps)
reaches_left (Sum i) Unbounded k h = tt
reaches_left Unbounded b k h = tt

pub reaches_right : (a b : Best) (k : ℤ) → Reaches b k → Reaches (better a b) k
reaches_right Absent b k h = h
reaches_right (Sum i) Absent k h = absurd h
reaches_right (Sum i) (Sum j) k h = omega (arith, ints, clamps)
reaches_right (Sum i) Unbounded k h = tt
reaches_right Unbounded b k h = tt

pub reaches_either : (a b : Best) (k : ℤ) → Reaches (better a b) k → Reaches a k ⊎ Reaches b k
reaches_either Absent b k h = inr h
reaches_either (Sum i) Absent k h = inl h
reaches_either (Sum i) (Sum j) k h =
    by_lt_z {P = (k ≤ℤ i) ⊎ (k ≤ℤ j)} i j (λ less. inr (omega (arith, ints, clamps))) (λ more. inl (omega (arith, ints, clamps)))
reaches_either (Sum i) Unbounded k h = inr tt
reaches_either Unbounded b k h = inl tt

-- chains of one set that go on by one of another reach the sum of what the two reach
pub reaches_joined : (a b : Best) (i j k : ℤ) → Reaches a i → Reaches b j → k ≤ℤ (i +ℤ j) → Reaches (joined a b) k
reaches_joined Absent b i j k h g e = absurd h
reaches_joined (Sum s) Absent i j k h g e = absurd g
reaches_joined (Sum s) (Sum t) i j k h g e = omega (arith, ints)
reaches_joined (Sum s) Unbounded i j k h g e = tt
reaches_joined Unbounded Absent i j k h g e = absurd g
reaches_joined Unbounded (Sum t) i j k h g e = tt
reaches_joined Unbounded Unbounded i j k h g e = tt

-- two parts of what chains that go on reach
pub record Parts (a b : Best) (k : ℤ) : Type 0 where
  pub first : ℤ
  pub second : ℤ
  pub reached_first : Reaches a first
  pub reached_second : Reaches b second
  pub enough : k ≤ℤ (first +ℤ second)

pub parts_of : (a b : Best) (k : ℤ) → Reaches (joined a b) k → Parts a b k
parts_of Absent b k h = absurd h
parts_of (Sum s) Absent k h = absurd h
parts_of (Sum s) (Sum t) k h = record { first = s; second = t; reached_first = omega (arith, ints); reached_second = omega (arith, ints); enough = h }
parts_of (Sum s) Unbounded k h = record { first = s; second = k +ℤ neg_ℤ s; reached_first = omega (arith, ints); reached_second = tt; enough = omega (arith, ints) }
parts_of Unbounded Absent k h = absurd h
parts_of Unbounded (Sum t) k h = record { first = k +ℤ neg_ℤ t; second = t; reached_first = tt; reached_second = omega (arith, ints); enough = omega (arith, ints) }
parts_of Unbounded Unbounded k h = record { first = k; second = pos 0; reached_first = tt; reached_second = tt; enough = omega (arith, ints) }

-- chains whose best sum is neither a number nor without a bound reach nothing
pub reaches_nothing : (b : Best) → ((s : ℤ) → b ≡ Sum s → ⊥) → (b ≡ Unbounded → ⊥) → (k : ℤ) → Reaches b k → ⊥
reaches_nothing Absent number bound k h = h
reaches_nothing (Sum s) number bound k h = number s refl
reaches_nothing Unbounded number bound k h = bound refl
