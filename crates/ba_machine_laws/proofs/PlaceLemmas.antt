-- Elements by their places.
use Rattle.std.proofs.Common.{◌≡◌, ℕ, zero, suc, ◌<◌, List, [], ◌∷◌, ◌++◌, Contains, Some, ap, arith, get_or, inl, inr, length, refl, slice_get, ◌⊎◌}
use Rattle.std.proofs.lemmas.Option.{none-some, same_Some}

pub get_at : {X : Type 0} (xs : List X) (y : X) (ys : List X) (n : ℕ) → n ≡ length xs → slice_get (xs ++ y ∷ ys) n ≡ Some y
get_at [] y ys zero e = refl
get_at [] y ys (suc n) e = absurd (omega (arith, e))
get_at (x ∷ xs) y ys zero e = absurd (omega (arith, e))
get_at (x ∷ xs) y ys (suc n) e = get_at xs y ys n (omega (arith, e))

pub get_last : {X : Type 0} (xs : List X) (y : X) (n : ℕ) (x : X) → slice_get (xs ++ y ∷ []) n ≡ Some x → (slice_get xs n ≡ Some x) ⊎ ((n ≡ length xs) × (y ≡ x))
get_last [] y zero x e = inr (refl, same_Some y x e)
get_last [] y (suc n) x e = absurd (none-some x e)
get_last (z ∷ xs) y zero x e = inl e
get_last (z ∷ xs) y (suc n) x e = by (get_last xs y n x e)
  where
    by : (slice_get xs n ≡ Some x) ⊎ ((n ≡ length xs) × (y ≡ x)) → (slice_get xs n ≡ Some x) ⊎ ((suc n ≡ suc (length xs)) × (y ≡ x))
    by (inl e) = inl e
    by (inr (e, same)) = inr (ap suc e, same)

-- the first of these, or one of the others
pub one_of : {X : Type 0} (x : X) (xs : List X) (y : X) → Contains (x ∷ xs) y → (x ≡ y) ⊎ Contains xs y
one_of x xs y h = by h.0 h.1 h.2
  where
    by : (k : ℕ) → k < length (x ∷ xs) → get_or (x ∷ xs) k y ≡ y → (x ≡ y) ⊎ Contains xs y
    by zero low e = inl e
    by (suc k) low e = inr (k, omega (arith, low), e)

pub empty : {X : Type 0} (x : X) → Contains [] x → ⊥
empty x h = let low = h.1 in omega (arith, low)
