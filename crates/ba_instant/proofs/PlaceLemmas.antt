-- Lists, place by place.
use Rattle.std.proofs.Common.{◌≡◌, ℕ, zero, suc, ◌+◌, ◌<◌, List, [], ◌∷◌, inl, inr, get_or, length, refl, subst, arith}
use Rattle.std.proofs.lemmas.Bool.{cases_lt}
use Rattle.std.proofs.lemmas.Option.{same_Some}
use Rattle.std.specs.List.{Any, zip}
use Rattle.std.specs.Prelude.{Some, slice_get}

-- P holds of the two at a place
pub any_pair : {X Y : Type 0} (P : X × Y → Type 0) (xs : List X) (ys : List Y) (i : ℕ) (x : X) (y : Y) → i < length xs → i < length ys → x ≡ get_or xs i x → y ≡ get_or ys i y →
    P (x, y) → Any P (zip xs ys)
any_pair P [] ys i x y left right x_is y_is h = absurd (let no : ⊥ = omega (arith, left) in no)
any_pair P (a ∷ xs) [] i x y left right x_is y_is h = absurd (let no : ⊥ = omega (arith, right) in no)
any_pair P (a ∷ xs) (b ∷ ys) zero x y left right x_is y_is h =
    let first : x ≡ a = x_is in
    let second : y ≡ b = y_is in
    (0, (a, b), omega arith, refl, subst (λ z. P (z, b)) first (subst (λ z. P (x, z)) second h))
any_pair P (a ∷ xs) (b ∷ ys) (suc i) x y left right x_is y_is h =
    let rest = any_pair P xs ys i x y (omega (arith, left)) (omega (arith, right)) x_is y_is h in
    (suc rest.0, rest.1, omega (arith, rest.2), rest.3, rest.4)

pub found_at : {X : Type 0} (xs : List X) (i : ℕ) (x other : X) → slice_get xs i ≡ Some x → get_or xs i other ≡ x
found_at [] i x other is = cc
found_at (a ∷ xs) zero x other is = same_Some a x is
found_at (a ∷ xs) (suc i) x other is = found_at xs i x other is

-- what holds of the places before, and of this one, holds of those up to it
pub places_more : (P : ℕ → Type 0) (i : ℕ) → ((q : ℕ) → q < i → P q) → P i → (q : ℕ) → q < i + 1 → P q
places_more P i before here q below = elim (cases_lt q i) as (λ _. P q) [
  | inl less ↦ before q less
  | inr more ↦ let same : i ≡ q = omega (arith, below, more) in subst P same here
]
