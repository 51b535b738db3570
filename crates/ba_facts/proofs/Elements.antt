-- Elements of a list by number, after a push, a cut or a write.
use Rattle.std.proofs.Common.{◌≡◌, ◌≢◌, ℕ, zero, suc, ◌<◌, ◌++◌, ◌⊎◌, inl, inr, List, [], ◌∷◌, length, take, set, refl, ap, arith, Some}
use Rattle.std.specs.List.{slice_get}
use Rattle.std.proofs.lemmas.Option.{none-some, same_Some}

pub get_push_old : {A : Type 0} (xs : List A) (x : A) (n : ℕ) (y : A) → slice_get xs n ≡ Some y → slice_get (xs ++ x ∷ []) n ≡ Some y
get_push_old [] x n y h = absurd (none-some y h)
get_push_old (z ∷ zs) x zero y h = h
get_push_old (z ∷ zs) x (suc n) y h = get_push_old zs x n y h

pub get_push_new : {A : Type 0} (xs : List A) (x : A) → slice_get (xs ++ x ∷ []) (length xs) ≡ Some x
get_push_new [] x = refl
get_push_new (z ∷ zs) x = get_push_new zs x

pub get_push_cases : {A : Type 0} (xs : List A) (x : A) (n : ℕ) (y : A) → slice_get (xs ++ x ∷ []) n ≡ Some y → (slice_get xs n ≡ Some y) ⊎ ((n ≡ length xs) × (x ≡ y))
get_push_cases [] x zero y h = inr (refl, same_Some x y h)
get_push_cases [] x (suc n) y h = absurd (none-some y h)
get_push_cases (z ∷ zs) x zero y h = inl h
get_push_cases (z ∷ zs) x (suc n) y h =
    elim (get_push_cases zs x n y h) as (λ _. (slice_get zs n ≡ Some y) ⊎ ((suc n ≡ suc (length zs)) × (x ≡ y))) [ inl old ↦ inl old | inr new ↦ inr (ap suc new.0, new.1) ]

pub get_take : {A : Type 0} (k : ℕ) (xs : List A) (n : ℕ) (y : A) → slice_get (take k xs) n ≡ Some y → (n < k) × (slice_get xs n ≡ Some y)
get_take zero xs n y h = absurd (none-some y h)
get_take (suc k) [] n y h = absurd (none-some y h)
get_take (suc k) (z ∷ zs) zero y h = (omega arith, h)
get_take (suc k) (z ∷ zs) (suc n) y h = let r = get_take k zs n y h in (omega (arith, r.0), r.1)

pub get_take_below : {A : Type 0} (k : ℕ) (xs : List A) (n : ℕ) (y : A) → n < k → slice_get xs n ≡ Some y → slice_get (take k xs) n ≡ Some y
get_take_below zero xs n y b h = absurd (omega arith)
get_take_below (suc k) [] n y b h = absurd (none-some y h)
get_take_below (suc k) (z ∷ zs) zero y b h = h
get_take_below (suc k) (z ∷ zs) (suc n) y b h = get_take_below k zs n y (omega arith) h

pub get_set_same : {A : Type 0} (xs : List A) (n : ℕ) (v : A) → n < length xs → slice_get (set xs n v) n ≡ Some v
get_set_same [] n v h = absurd (omega arith)
get_set_same (z ∷ zs) zero v h = refl
get_set_same (z ∷ zs) (suc n) v h = get_set_same zs n v (omega arith)

pub get_set_other : {A : Type 0} (xs : List A) (n m : ℕ) (v : A) → m ≢ n → slice_get (set xs n v) m ≡ slice_get xs m
get_set_other [] n m v h = refl
get_set_other (z ∷ zs) zero zero v h = absurd (h refl)
get_set_other (z ∷ zs) zero (suc m) v h = refl
get_set_other (z ∷ zs) (suc n) zero v h = refl
get_set_other (z ∷ zs) (suc n) (suc m) v h = get_set_other zs n m v (λ e. h (ap suc e))

pub get_append_old : {A : Type 0} (xs ys : List A) (n : ℕ) (y : A) → slice_get xs n ≡ Some y → slice_get (xs ++ ys) n ≡ Some y
get_append_old [] ys n y h = absurd (none-some y h)
get_append_old (z ∷ zs) ys zero y h = h
get_append_old (z ∷ zs) ys (suc n) y h = get_append_old zs ys n y h
