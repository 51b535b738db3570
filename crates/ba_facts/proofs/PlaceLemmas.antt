-- What is so of each place of a list, or of two lists place by place.
use Rattle.std.proofs.Common.{◌≡◌, ◌∙◌, ℕ, zero, suc, Bool, true, false, ◌+◌, ◌<◌, ◌≤◌, ◌⊎◌, inl, inr, List, [], ◌∷◌, ◌++◌, length, get_or, take, map}
use Rattle.std.proofs.Common.{refl, sym, ap, subst, arith}
use Rattle.std.proofs.Math.Nat.{eq-or-lt_of_le}
use Rattle.std.proofs.lemmas.List.{get_or-map, length-map, map_more}
use Rattle.std.proofs.lemmas.List.Elements.{AllZip-get_or, AllZip-push, length_all_zip}
use Rattle.std.proofs.lemmas.Option.{slice_get-get_or}
use Rattle.std.specs.List.{All, AllWithin, AllZip, Any, HoldsAt}
use Rattle.std.specs.Prelude.{IsTrue, MatchBool, Some, slice_get, ◌↔◌}

pub upto : (k bound : ℕ) → k < bound + 1 → (k < bound) ⊎ (k ≡ bound)
upto k bound below = elim (eq-or-lt_of_le (let h : k ≤ bound = omega arith in h)) [ inl same ↦ inr same | inr less ↦ inl less ]

-- what is so of each place below i, and of that place
pub places_more : {X : Type 0} (P : X → Type 0) (xs : List X) (i : ℕ) (x : X) → i < length xs → x ≡ get_or xs i x → P x →
    ((k : ℕ) (y : X) → k < i → slice_get xs k ≡ Some y → P y) → (k : ℕ) (y : X) → k < i + 1 → slice_get xs k ≡ Some y → P y
places_more P xs i x inside is here before k y below at = elim (upto k i below) [
  | inl less ↦ before k y less at
  | inr same ↦
      let there : slice_get xs i ≡ Some x = slice_get-get_or xs i x inside ∙ ap Some (sym is) in
      let again : slice_get xs i ≡ Some y = subst (λ n. slice_get xs n ≡ Some y) same at in
      subst P (let e : x ≡ y = cc (there, again) in e) here
]

pub all_places : {X : Type 0} (P : X → Type 0) (xs : List X) (i : ℕ) → length xs ≤ i → ((k : ℕ) (y : X) → k < i → slice_get xs k ≡ Some y → P y) → All P xs
all_places P xs i past before k d below = before k (get_or xs k d) (let h : k < i = omega arith in h) (slice_get-get_or xs k d below)

-- ---- two lists, place by place
module _ {X Y : Type 0} (R : Y → Y → Type 0) (f g : X → Y) (xs ys : List X) where
  pub lengths_differ : (length xs ≡ length ys → ⊥) → AllZip R (map f xs) (map g ys) → ⊥
  lengths_differ differ h =
      let e : length (map f xs) ≡ length (map g ys) = length_all_zip R (map f xs) (map g ys) h in
      differ (sym (length-map xs f) ∙ (e ∙ length-map ys g))

  -- the two at the place i
  module _ (i : ℕ) (x y : X) (left : i < length xs) (right : i < length ys) (x_is : x ≡ get_or xs i x) (y_is : y ≡ get_or ys i y) where
    pub zip_more : R (f x) (g y) → AllZip R (map f (take i xs)) (map g (take i ys)) → AllZip R (map f (take (i + 1) xs)) (map g (take (i + 1) ys))
    zip_more here before =
        let more_left : map f (take (i + 1) xs) ≡ map f (take i xs) ++ f x ∷ [] =
        map_more f xs i x left ∙ ap (λ z. map f (take i xs) ++ f z ∷ []) (sym x_is) in
        let more_right : map g (take (i + 1) ys) ≡ map g (take i ys) ++ g y ∷ [] =
        map_more g ys i y right ∙ ap (λ z. map g (take i ys) ++ g z ∷ []) (sym y_is) in
        subst (λ zs. AllZip R zs (map g (take (i + 1) ys))) (sym more_left)
        (subst (AllZip R (map f (take i xs) ++ f x ∷ [])) (sym more_right) (AllZip-push R (map f (take i xs)) (map g (take i ys)) (f x) (g y) before here))

    pub zip_fails : (R (f x) (g y) → ⊥) → AllZip R (map f xs) (map g ys) → ⊥
    zip_fails fails h =
        let left_is : get_or (map f xs) i (f x) ≡ f x = get_or-map f xs i x (f x) left ∙ ap f (sym x_is) in
        let right_is : get_or (map g ys) i (g y) ≡ g y = get_or-map g ys i y (g y) right ∙ ap g (sym y_is) in
        let inside : i < length (map f xs) = subst (λ n. i < n) (sym (length-map xs f)) left in
        fails (subst (λ a. R a (g y)) left_is (subst (R (get_or (map f xs) i (f x))) right_is (AllZip-get_or R (map f xs) (map g ys) i (f x) (g y) h inside)))

-- ---- two lists of two kinds, place by place

module _ {X Y Z : Type 0} (R : Z → Z → Type 0) (f : X → Z) (g : Y → Z) (xs : List X) (ys : List Y) (i : ℕ) (x : X) (y : Y) (left : i < length xs)
    (right : i < length ys) (x_is : x ≡ get_or xs i x) (y_is : y ≡ get_or ys i y) where
  pub pair_more : R (f x) (g y) → AllZip R (map f (take i xs)) (map g (take i ys)) → AllZip R (map f (take (i + 1) xs)) (map g (take (i + 1) ys))
  pair_more here before =
      let more_left : map f (take (i + 1) xs) ≡ map f (take i xs) ++ f x ∷ [] =
      map_more f xs i x left ∙ ap (λ z. map f (take i xs) ++ f z ∷ []) (sym x_is) in
      let more_right : map g (take (i + 1) ys) ≡ map g (take i ys) ++ g y ∷ [] =
      map_more g ys i y right ∙ ap (λ z. map g (take i ys) ++ g z ∷ []) (sym y_is) in
      subst (λ zs. AllZip R zs (map g (take (i + 1) ys))) (sym more_left)
      (subst (AllZip R (map f (take i xs) ++ f x ∷ [])) (sym more_right) (AllZip-push R (map f (take i xs)) (map g (take i ys)) (f x) (g y) before here))

  pub pair_fails : (R (f x) (g y) → ⊥) → AllZip R (map f xs) (map g ys) → ⊥
  pair_fails fails h =
      let left_is : get_or (map f xs) i (f x) ≡ f x = get_or-map f xs i x (f x) left ∙ ap f (sym x_is) in
      let right_is : get_or (map g ys) i (g y) ≡ g y = get_or-map g ys i y (g y) right ∙ ap g (sym y_is) in
      let inside : i < length (map f xs) = subst (λ n. i < n) (sym (length-map xs f)) left in
      fails (subst (λ z. R z (g y)) left_is (subst (R (get_or (map f xs) i (f x))) right_is (AllZip-get_or R (map f xs) (map g ys) i (f x) (g y) h inside)))

-- ---- a search through a list, where a test tells P
element_at : {X : Type 0} (xs : List X) (k : ℕ) → k < length xs → (x : X) × (get_or xs k x ≡ x)
element_at [] k below = absurd (omega arith)
element_at (x ∷ xs) zero below = (x, refl)
element_at (x ∷ xs) (suc k) below = element_at xs k (omega arith)

pub any_found : {X : Type 0} (P : X → Type 0) (r : Bool) (xs : List X) →
    MatchBool r ((k : ℕ) × (k < length xs) × HoldsAt P xs k) (AllWithin (λ x. P x → ⊥) xs 0 (length xs)) → IsTrue r ↔ Any P xs
any_found P true xs (k, below, at) = let x = element_at xs k below in (λ yes. (k, x.0, below, x.1, subst P x.1 (at x.0)), λ it. refl)
any_found P false xs h = (λ yes. cc, λ it. absurd (h it.0 it.1 (omega arith) it.2 (subst P (sym it.3) it.4)))
