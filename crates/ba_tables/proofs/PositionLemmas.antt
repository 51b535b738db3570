-- The first place that passes a test.
use Rattle.std.proofs.Common.{◌≡◌, ℕ, zero, suc, ◌+◌, ◌≤◌, Bool, true, false, cond, List, [], ◌∷◌, ◌++◌, length, drop, Some, None, refl, sym, ap, ◌∙◌, arith}
use Rattle.std.proofs.lemmas.List.{drop_all}
use Rattle.std.specs.List.{position_from}
use Rattle.std.specs.Option.{option_or}
use Rattle.std.specs.Prelude.{slice_get}
use Rattle.ba_tables.proofs.FieldLemmas.{drop_element}

-- one more element at the end
pub position-push : {X : Type 0} (p : X → Bool) (n : ℕ) (xs : List X) (x : X) → position_from p n (xs ++ x ∷ []) ≡ option_or (position_from p n xs) (cond (p x) (Some (n + length xs)) None)
position-push p n [] x = ap (λ k. cond (p x) (Some k) None) (let e : n ≡ n + 0 = omega arith in e)
position-push p n (y ∷ xs) x = by (p y) (position-push p (n + 1) xs x ∙ ap (λ k. option_or (position_from p (n + 1) xs) (cond (p x) (Some k) None)) (let e : n + 1 + length xs ≡ n + suc (length xs) = omega arith in e))
  where
    by : (b : Bool) → position_from p (n + 1) (xs ++ x ∷ []) ≡ option_or (position_from p (n + 1) xs) (cond (p x) (Some (n + suc (length xs))) None)
        → cond b (Some n) (position_from p (n + 1) (xs ++ x ∷ [])) ≡ option_or (cond b (Some n) (position_from p (n + 1) xs)) (cond (p x) (Some (n + suc (length xs))) None)
    by true e = refl
    by false e = e

-- tests that say the same find the same
pub position-same : {X : Type 0} (p q : X → Bool) (n : ℕ) (xs : List X) → ((x : X) → p x ≡ q x) → position_from p n xs ≡ position_from q n xs
position-same p q n xs h = λ i. position_from (λ x. h x i) n xs

-- where nothing was found, no element passes
pub position-none : {X : Type 0} (p : X → Bool) (n : ℕ) (xs : List X) (i : ℕ) (x : X) → position_from p n xs ≡ None → slice_get xs i ≡ Some x → p x ≡ false
position-none p n [] i x h e = cc e
position-none p n (y ∷ xs) i x h e = by (p y) refl i e (λ k. position-none p (n + 1) xs k x)
  where
    by : (b : Bool) → p y ≡ b → (i : ℕ) → slice_get (y ∷ xs) i ≡ Some x → ((k : ℕ) → position_from p (n + 1) xs ≡ None → slice_get xs k ≡ Some x → p x ≡ false) → p x ≡ false
    by true t i e more = cc (rw t at h)
    by false t zero e more = let same : y ≡ x = cc e in rw (← same) t
    by false t (suc k) e more = more k (rw t at h) e

pub position-false : {X : Type 0} (p : X → Bool) (n : ℕ) (xs : List X) → ((x : X) → p x ≡ false) → position_from p n xs ≡ None
position-false p n [] h = refl
position-false p n (y ∷ xs) h = rw (h y) (position-false p (n + 1) xs h)

-- the element at a place passes, or the search goes on behind it
pub position-here : {X : Type 0} (p : X → Bool) (n : ℕ) (xs : List X) (i : ℕ) (x : X) → slice_get xs i ≡ Some x → p x ≡ true → position_from p n (drop i xs) ≡ Some n
position-here p n xs i x e t = rw (drop_element xs i x e, t) refl

pub position-next : {X : Type 0} (p : X → Bool) (n : ℕ) (xs : List X) (i : ℕ) (x : X) → slice_get xs i ≡ Some x → p x ≡ false → position_from p n (drop i xs) ≡ position_from p (n + 1) (drop (i + 1) xs)
position-next p n xs i x e t = rw (drop_element xs i x e, t) refl

-- where nothing was found up to the end
pub position-left : {X : Type 0} (p : X → Bool) (n i : ℕ) (xs : List X) → length xs ≤ i → position_from p n (drop i xs) ≡ position_from p 1 xs → position_from p 1 xs ≡ None
position-left p n i xs le h = sym h ∙ rw (drop_all i xs le) refl
