-- A list that repeats an element isn't distinct.
use Rattle.std.proofs.Common.{◌≡◌, ◌∙◌, ap, ℕ, zero, suc, ◌<◌, Bool, true, false, ◌||◌, List, [], ◌∷◌, length, take, get_or, arith}
use Rattle.std.specs.List.{AllByRecursion, IsDistinct, list_any}

later_differs : {K : Type 0} (p : K → Bool) (xs : List K) (i : ℕ) (x : K) → i < length xs → x ≡ get_or xs i x → AllByRecursion (λ y. p y ≡ false) xs → p x ≡ false
later_differs p [] i x below is h = absurd (omega arith)
later_differs p (y ∷ ys) zero x below is h = ap p is ∙ h.0
later_differs p (y ∷ ys) (suc i) x below is h = later_differs p ys i x (omega arith) is h.1

not_first : (b d : Bool) → (b || d) ≡ true → b ≡ false → d ≡ true
not_first true d e h = cc
not_first false d e h = e

pub repeats : {K : Type 0} (e : K → K → Bool) (flips : (x y : K) → e x y ≡ e y x) (xs : List K) (i : ℕ) (x : K) → i < length xs → x ≡ get_or xs i x → list_any (e x) (take i xs) ≡ true → IsDistinct e xs → ⊥
unfolding IsDistinct
repeats e flips [] i x below is found h = absurd (omega arith)
repeats e flips (y ∷ ys) zero x below is found h = cc
repeats e flips (y ∷ ys) (suc i) x below is found h =
    let differs : e x y ≡ false = flips x y ∙ later_differs (e y) ys i x (omega arith) is h.0 in
    repeats e flips ys i x (omega arith) is (not_first (e x y) (list_any (e x) (take i ys)) found differs) h.1
