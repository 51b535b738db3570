-- The search for an unused number ends: at each step fewer used numbers lie ahead.
use Rattle.std.proofs.Common.{◌≡◌, ℕ, zero, suc, ◌+◌, ◌<◌, ◌≤◌, ℤ, pos, ◌+ℤ◌, ◌≤ℤ◌, ◌<ℤ◌, List, [], ◌∷◌, Contains, cond, sym, subst, ◌⊎◌, inl, inr, ⊎_elim, arith}
use Rattle.std.proofs.lemmas.Int.{ints, by_lt_z}
use lib.Signed.{le_z}

-- a member stands first, or is a member of the rest
pub Contains-cases : {X : Type 0} (x y : X) (xs : List X) → Contains (y ∷ xs) x → (y ≡ x) ⊎ Contains xs x
Contains-cases x y xs (zero, h, e) = inl e
Contains-cases x y xs (suc k, h, e) = inr (k, omega arith, e)

-- how many of the numbers are v or more, or at most v
abbrev pub count_from : ℤ → List ℤ → ℕ
count_from v [] = 0
count_from v (u ∷ us) = cond (le_z v u) 1 0 + count_from v us

abbrev pub count_upto : ℤ → List ℤ → ℕ
count_upto v [] = 0
count_upto v (u ∷ us) = cond (le_z u v) 1 0 + count_upto v us

one_from : (v w u : ℤ) → v <ℤ w → cond (le_z w u) 1 0 ≤ cond (le_z v u) 1 0
one_from v w u h = grind (arith, ints)

from_le : (v w : ℤ) (us : List ℤ) → v <ℤ w → count_from w us ≤ count_from v us
from_le v w [] h = omega arith
from_le v w (u ∷ us) h = omega (arith, one_from v w u h, from_le v w us h)

at_itself : (v w : ℤ) → v <ℤ w → cond (le_z w v) 1 0 < cond (le_z v v) 1 0
at_itself v w h = grind (arith, ints)

pub from_falls : (v w : ℤ) (us : List ℤ) → v <ℤ w → Contains us v → count_from w us < count_from v us
from_falls v w [] h c = absurd (omega (arith, c.1))
from_falls v w (u ∷ us) h c =
    ⊎_elim
    (λ (e : u ≡ v). subst (λ n. cond (le_z w n) 1 0 + count_from w us < cond (le_z v n) 1 0 + count_from v us) (sym e) (omega (arith, at_itself v w h, from_le v w us h)))
    (λ (later : Contains us v). omega (arith, one_from v w u h, from_falls v w us h later))
    (Contains-cases v u us c)

one_upto : (v w u : ℤ) → w <ℤ v → cond (le_z u w) 1 0 ≤ cond (le_z u v) 1 0
one_upto v w u h = grind (arith, ints)

upto_le : (v w : ℤ) (us : List ℤ) → w <ℤ v → count_upto w us ≤ count_upto v us
upto_le v w [] h = omega arith
upto_le v w (u ∷ us) h = omega (arith, one_upto v w u h, upto_le v w us h)

upto_itself : (v w : ℤ) → w <ℤ v → cond (le_z v w) 1 0 < cond (le_z v v) 1 0
upto_itself v w h = grind (arith, ints)

pub upto_falls : (v w : ℤ) (us : List ℤ) → w <ℤ v → Contains us v → count_upto w us < count_upto v us
upto_falls v w [] h c = absurd (omega (arith, c.1))
upto_falls v w (u ∷ us) h c =
    ⊎_elim
    (λ (e : u ≡ v). subst (λ n. cond (le_z n w) 1 0 + count_upto w us < cond (le_z n v) 1 0 + count_upto v us) (sym e) (omega (arith, upto_itself v w h, upto_le v w us h)))
    (λ (later : Contains us v). omega (arith, one_upto v w u h, upto_falls v w us h later))
    (Contains-cases v u us c)

-- one more number is used
pub passed_more : (used : List ℤ) (low v w : ℤ) → w ≡ v +ℤ pos 1 → Contains used v → ((n : ℤ) → low ≤ℤ n → n <ℤ v → Contains used n) → (n : ℤ) → low ≤ℤ n → n <ℤ w → Contains used n
passed_more used low v w next here below n h k =
    by_lt_z {P = Contains used n} n v (λ less. below n h less) (λ more. let e : v ≡ n = omega (arith, ints) in subst (Contains used) e here)

pub passed_less : (used : List ℤ) (high v w : ℤ) → w +ℤ pos 1 ≡ v → Contains used v → ((n : ℤ) → v <ℤ n → n ≤ℤ high → Contains used n) → (n : ℤ) → w <ℤ n → n ≤ℤ high → Contains used n
passed_less used high v w next here above n h k =
    by_lt_z {P = Contains used n} v n (λ more. above n more k) (λ less. let e : v ≡ n = omega (arith, ints) in subst (Contains used) e here)
