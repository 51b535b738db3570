-- A loop that tests each element and ends at the first that fails.
use Rattle.std.proofs.Common.{◌≡◌, ◌∙◌, ◌↔◌, ℕ, ◌+◌, ◌<◌, ◌≤◌, Bool, true, false, IsTrue, List, [], ◌∷◌, ◌++◌, All, ap, length, slice_index_or, sym, subst, take}
use Rattle.std.proofs.lemmas.List.{take_all, take_more}
use Rattle.std.proofs.lemmas.List.Elements.{All-more}

pub is_true : IsTrue true
is_true = cc

pub refused : {X : Type 0} (P : X → Type 0) (xs : List X) (i : ℕ) (x : X) (b : Bool) → i < length xs → x ≡ slice_index_or xs i x → (IsTrue b ↔ P x) → b ≡ false → IsTrue false ↔ All P xs
refused P xs i x b less is test fails = (λ t. cc, λ all. subst IsTrue fails (test.1 (subst P (sym is) (all i x less))))

pub passed : {X : Type 0} (P : X → Type 0) (xs : List X) (i : ℕ) (x : X) (b : Bool) → i < length xs → x ≡ slice_index_or xs i x → (IsTrue b ↔ P x) → b ≡ true → All P (take i xs) → All P (take (i + 1) xs)
passed P xs i x b less is test holds before = All-more P xs i x less before (subst P is (test.0 (subst IsTrue (sym holds) is_true)))

pub ended : {X : Type 0} (P : X → Type 0) (xs : List X) (i : ℕ) → length xs ≤ i → All P (take i xs) → IsTrue true ↔ All P xs
ended P xs i past before = (λ t. subst (All P) (take_all i xs past) before, λ all. is_true)

pub told : {b : Bool} → b ≡ true → IsTrue b
told holds = subst IsTrue (sym holds) is_true

-- ---- a loop that adds the same of each element, and ends at the first of which P doesn't hold

pub stopped : {X : Type 0} (P : X → Type 0) (xs : List X) (i : ℕ) (x : X) → i < length xs → x ≡ slice_index_or xs i x → (P x → ⊥) → All P xs → ⊥
stopped P xs i x less is fails all = fails (subst P (sym is) (all i x less))

pub added : {X : Type 0} (P : X → Type 0) (xs ys : List X) (i : ℕ) (x y : X) → i < length xs → x ≡ slice_index_or xs i x → (y ≡ x) × P x → (ys ≡ take i xs) × All P (take i xs) → (ys ++ y ∷ [] ≡ take (i + 1) xs) × All P (take (i + 1) xs)
added P xs ys i x y less is one before = (
  ap (λ zs. zs ++ y ∷ []) before.0 ∙ ap (λ z. take i xs ++ z ∷ []) (one.0 ∙ is) ∙ sym (take_more xs i x less),
  All-more P xs i x less before.1 (subst P is one.1),
)

pub whole : {X : Type 0} (P : X → Type 0) (xs ys : List X) (i : ℕ) → length xs ≤ i → (ys ≡ take i xs) × All P (take i xs) → (ys ≡ xs) × All P xs
whole P xs ys i past before = (before.0 ∙ take_all i xs past, subst (All P) (take_all i xs past) before.1)
