-- Chains one after another, round a circle, and of more facts.
use Rattle.std.proofs.Common.{◌≡◌, ℕ, suc, zero, ℤ, pos, negsuc, ◌+ℤ◌, ◌≤ℤ◌, List, ◌++◌, Contains, subst, arith}
use Rattle.std.proofs.lemmas.Int.{ints}
use Rattle.std.proofs.lemmas.List.Elements.{Contains-append_left}
use Rattle.ba_classes.specs.Chains.{ShownIsTrue, AbsurdHasNoValues, Satisfies, Chain, none, first, Shows}
use Rattle.ba_classes.specs.declared.order.Difference.{Difference}

-- the same chain, where its sum is written otherwise
pub summing : {facts : List Difference} {x y : ℕ} {j : ℤ} (k : ℤ) → j ≡ k → Chain facts x j y → Chain facts x k y
summing {facts} {x} {y} k e c = subst (λ s. Chain facts x s y) e c

pub then : {facts : List Difference} {x y z : ℕ} {j k : ℤ} → Chain facts x j y → Chain facts y k z → Chain facts x (j +ℤ k) z
then none d = summing _ (omega (arith, ints)) d
then (first f h c) d = summing _ (omega (arith, ints)) (first f h (then c d))

pub Chain-more : {facts : List Difference} {x y : ℕ} {k : ℤ} (more : List Difference) → Chain facts x k y → Chain (facts ++ more) x k y
Chain-more more none = none
Chain-more {facts} more (first f h c) = first f (Contains-append_left facts more f h) (Chain-more more c)

-- the chain of one fact
pub one_fact : {facts : List Difference} (f : Difference) → Contains facts f → Chain facts f.low f.gap f.high
one_fact f h = summing _ (omega (arith, ints)) (first f h none)

-- what is shown is shown of any lesser number
pub weaken : {facts : List Difference} {x y : ℕ} {k : ℤ} (j : ℤ) → j ≤ℤ k → Shows facts x k y → Shows facts x j y
weaken j e s = record { sum = s.sum; enough = omega (arith, ints); chain = s.chain }

pub Shows-none : {facts : List Difference} (x : ℕ) → Shows facts x (pos 0) x
Shows-none x = record { sum = pos 0; enough = omega (arith, ints); chain = none }

pub Shows-then : {facts : List Difference} {x y z : ℕ} {j k : ℤ} (i : ℤ) → i ≤ℤ (j +ℤ k) → Shows facts x j y → Shows facts y k z → Shows facts x i z
Shows-then i e s t = record { sum = s.sum +ℤ t.sum; enough = omega (arith, ints); chain = then s.chain t.chain }

pub Shows-more : {facts : List Difference} {x y : ℕ} {k : ℤ} (more : List Difference) → Shows facts x k y → Shows (facts ++ more) x k y
Shows-more more s = record { sum = s.sum; enough = s.enough; chain = Chain-more more s.chain }

pub Shows-fact : {facts : List Difference} (f : Difference) → Contains facts f → Shows facts f.low f.gap f.high
Shows-fact f h = record { sum = f.gap; enough = omega (arith, ints); chain = one_fact f h }

-- a circle that gains is gone round as often as one likes
pub rounds : {facts : List Difference} {x : ℕ} (n : ℕ) → Shows facts x (pos 1) x → Shows facts x (pos n) x
rounds {facts} {x} zero s = Shows-none x
rounds (suc n) s = Shows-then (pos (suc n)) (omega (arith, ints)) s (rounds n s)

-- a circle that gains shows any number
pub any_number : {facts : List Difference} {x : ℕ} (k : ℤ) → Shows facts x (pos 1) x → Shows facts x k x
any_number (pos n) s = rounds n s
any_number (negsuc n) s = weaken (negsuc n) (omega (arith, ints)) (rounds 0 s)

-- values that make the facts true make the sum of a chain true
chain_is_true : {facts : List Difference} (value : ℕ → ℤ) → Satisfies facts value → {x y : ℕ} {k : ℤ} → Chain facts x k y → (value x +ℤ k) ≤ℤ value y
chain_is_true value s none = omega (arith, ints)
chain_is_true value s (first f h c) = omega (arith, ints, s.each f h, chain_is_true value s c)

pub shown_is_true : ShownIsTrue
shown_is_true facts value s x y k t = omega (arith, ints, t.enough, chain_is_true value s t.chain)

pub absurd_has_no_values : AbsurdHasNoValues
absurd_has_no_values facts value s a = omega (arith, ints, a.above, chain_is_true value s a.chain)
