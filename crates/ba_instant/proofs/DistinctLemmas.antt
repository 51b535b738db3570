-- Numbers of which no two are one.
use Rattle.std.proofs.Common.{◌≡◌, ℕ, List, [], ◌∷◌, arith, false, length, sym, subst}
use Rattle.std.proofs.lemmas.List.Elements.{All-head, All-tail}
use Rattle.std.proofs.lemmas.Map.Keys.{IsDistinct-cons}
use Rattle.std.specs.List.{All, AllByRecursion, IsDistinct}
use Rattle.std.specs.Prelude.{nat_eq}

by_recursion : {X : Type 0} (P : X → Type 0) (xs : List X) → All P xs → AllByRecursion P xs
by_recursion P [] all = tt
by_recursion P (x ∷ xs) all = (All-head P x xs all, by_recursion P xs (All-tail P x xs all))

none_distinct : IsDistinct nat_eq []
unfolding IsDistinct
none_distinct = tt

pub distinct_none : (xs : List ℕ) → length xs ≡ 0 → IsDistinct nat_eq xs
distinct_none [] none = none_distinct
distinct_none (x ∷ xs) none = absurd (let no : ⊥ = omega (arith, none) in no)

pub distinct_more : (xs : List ℕ) (x : ℕ) (rest : List ℕ) → xs ≡ x ∷ rest → All (λ y. nat_eq x y ≡ false) rest → IsDistinct nat_eq rest → IsDistinct nat_eq xs
distinct_more xs x rest is other h = subst (IsDistinct nat_eq) (sym is) (IsDistinct-cons nat_eq x rest (by_recursion (λ y. nat_eq x y ≡ false) rest other) h)
