-- A strictly sorted list is determined by its elements.
use Rattle.std.proofs.Common.{◌≡◌, false, List, [], ◌∷◌, refl, sym, ap, ◌∙◌, subst}
use Rattle.std.proofs.lemmas.List.Elements.{All-cons, All-weaker, All-contains}
use Rattle.std.proofs.lemmas.Map.Made.{Contains-tail}
use Rattle.std.proofs.lemmas.Map.Views.{All-after_first}
use Rattle.ba_model.proofs.ElementLemmas.{Contains-head, Contains-later, Contains-nil}
use Rattle.std.specs.Cmp.{IsTotalOrder, tied_itself}
use Rattle.std.specs.List.{Contains}
use Rattle.std.specs.List.Sorted.{IsStrictlySortedBy}
use Rattle.std.specs.Ordering.{is_gt, ordering_reverse}
use Rattle.std.specs.declared.cmp.Ordering.{Ordering}
use Rattle.std.specs.declared.cmp.Ordering.TheVariants.{Less, Equal, Greater}

both_upto : (r s : Ordering) → r ≡ ordering_reverse s → is_gt r ≡ false → is_gt s ≡ false → r ≡ Equal
both_upto Less Greater e p q = cc
both_upto Less Less e p q = cc
both_upto Less Equal e p q = cc
both_upto Equal s e p q = refl
both_upto Greater s e p q = cc

pub sorted_tail : {K : Type 0} (R : K → K → Ordering) (x : K) (xs : List K) → IsStrictlySortedBy R (x ∷ xs) → IsStrictlySortedBy R xs
unfolding IsStrictlySortedBy
sorted_tail R x xs h = h.1

module _ {K : Type 0} {R : K → K → Ordering} (o : IsTotalOrder R) (equal : (x y : K) → R x y ≡ Equal → x ≡ y) where
  -- no element is below the first
  first_least : (x : K) (xs : List K) (y : K) → IsStrictlySortedBy R (x ∷ xs) → Contains (x ∷ xs) y → is_gt (R x y) ≡ false
  first_least x xs y s h =
      All-contains (λ q. is_gt (R x q) ≡ false) (x ∷ xs) y
      (All-cons (λ q. is_gt (R x q) ≡ false) x xs (ap is_gt (tied_itself o x)) (All-weaker (λ q. R x q ≡ Less) (λ q. is_gt (R x q) ≡ false) (λ q e. ap is_gt e) xs (All-after_first R x xs s)))
      h

  -- the first does not come again
  not_again : (x : K) (xs : List K) (y : K) → IsStrictlySortedBy R (x ∷ xs) → Contains xs y → x ≡ y → ⊥
  not_again x xs y s h e =
      let less : R x y ≡ Less = All-contains (λ q. R x q ≡ Less) xs y (All-after_first R x xs s) h in
      let tie : R x y ≡ Equal = subst (λ q. R x q ≡ Equal) e (tied_itself o x) in
      cc

  pub same_sorted : (xs ys : List K) → IsStrictlySortedBy R xs → IsStrictlySortedBy R ys → ((q : K) → Contains xs q → Contains ys q) → ((q : K) → Contains ys q → Contains xs q) → xs ≡ ys
  same_sorted [] [] s t f g = refl
  same_sorted [] (y ∷ ys) s t f g = absurd (Contains-nil y (g y (Contains-head y ys)))
  same_sorted (x ∷ xs) [] s t f g = absurd (Contains-nil x (f x (Contains-head x xs)))
  same_sorted (x ∷ xs) (y ∷ ys) s t f g =
      let tie : R x y ≡ Equal = both_upto (R x y) (R y x) (o.antisymm x y) (first_least x xs y s (g y (Contains-head y ys))) (first_least y ys x t (f x (Contains-head x xs))) in
      let same : x ≡ y = equal x y tie in
      let rest : xs ≡ ys =
      same_sorted xs ys (sorted_tail R x xs s) (sorted_tail R y ys t)
      (λ q h. Contains-tail y ys q (λ e. not_again x xs q s h (same ∙ e)) (f q (Contains-later x xs q h)))
      (λ q h. Contains-tail x xs q (λ e. not_again y ys q t h (sym same ∙ e)) (g q (Contains-later y ys q h))) in
      cc
