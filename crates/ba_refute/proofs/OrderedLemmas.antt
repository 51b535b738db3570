-- A list is determined by its elements, where a relation that doesn't hold both ways holds of each and each later one.
use Rattle.std.proofs.Common.{◌≡◌, zero, suc, List, [], ◌∷◌, AllPairs, Contains, arith, refl, subst, sym, ◌∙◌, ⊎_elim}
use Rattle.std.proofs.lemmas.Map.Made.{Contains-tail}
use Rattle.ba_model.proofs.ElementLemmas.{Contains-cases, Contains-head, Contains-later, Contains-nil}

module _ {X : Type 0} (R : X → X → Type 0) where
  later_pairs : (x : X) (xs : List X) → AllPairs R (x ∷ xs) → AllPairs R xs
  later_pairs x xs h i j d less within = h (suc i) (suc j) d (omega (arith, less)) (omega (arith, within))

  first_pairs : (x : X) (xs : List X) (y : X) → AllPairs R (x ∷ xs) → Contains xs y → R x y
  first_pairs x xs y h (k, below, is) = subst (R x) is (h zero (suc k) y (omega arith) (omega (arith, below)))

  module _ (apart : (x y : X) → R x y → R y x → ⊥) where
    not_again : (x : X) (xs : List X) (y : X) → AllPairs R (x ∷ xs) → Contains xs y → x ≡ y → ⊥
    not_again x xs y h there same =
        let own : R x x = first_pairs x xs x h (subst (Contains xs) (sym same) there) in
        apart x x own own

    pub same_ordered : (xs ys : List X) → AllPairs R xs → AllPairs R ys → ((q : X) → Contains xs q → Contains ys q) → ((q : X) → Contains ys q → Contains xs q) → xs ≡ ys
    same_ordered [] [] h g to from = refl
    same_ordered [] (y ∷ ys) h g to from = absurd (Contains-nil y (from y (Contains-head y ys)))
    same_ordered (x ∷ xs) [] h g to from = absurd (Contains-nil x (to x (Contains-head x xs)))
    same_ordered (x ∷ xs) (y ∷ ys) h g to from =
        let same : x ≡ y =
        ⊎_elim
        (λ (e : y ≡ x). sym e)
        (λ (late : Contains ys x). ⊎_elim
        (λ (e : x ≡ y). e)
        (λ (later : Contains xs y). absurd (apart x y (first_pairs x xs y h later) (first_pairs y ys x g late)))
        (Contains-cases x xs y (from y (Contains-head y ys))))
        (Contains-cases y ys x (to x (Contains-head x xs))) in
        let rest : xs ≡ ys =
        same_ordered xs ys (later_pairs x xs h) (later_pairs y ys g)
        (λ q k. Contains-tail y ys q (λ e. not_again x xs q h k (same ∙ e)) (to q (Contains-later x xs q k)))
        (λ q k. Contains-tail x xs q (λ e. not_again y ys q g k (sym same ∙ e)) (from q (Contains-later y ys q k))) in
        cc
