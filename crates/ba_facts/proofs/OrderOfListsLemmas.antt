-- The order of lists of numbers, and strictly rising lists put one after another.
use Rattle.std.proofs.Common.{◌≡◌, ◌∙◌, ℕ, ◌<◌, List, ◌++◌, ◌∷◌, [], ap, sym}
use Rattle.std.specs.List.{All}
use Rattle.std.specs.List.Sorted.{IsStrictlySortedBy}
use Rattle.std.specs.Cmp.{nat_cmp_is}
use Rattle.std.specs.Cmp.Lexicographic.{slice_cmp}
use Rattle.std.specs.Ordering.{nat_cmp, ordering_then}
use Rattle.std.specs.declared.cmp.Ordering.{Ordering}
use Rattle.std.specs.declared.cmp.Ordering.TheVariants.{Less}
use Rattle.std.proofs.lemmas.Cmp.{nat_cmp_total, tied_itself}
use Rattle.std.proofs.lemmas.List.Elements.{All-append, All-from_recursion, All-head, All-tail, recursion_from_All}

-- lists that are the same up to a place where one has the lesser number
pub less_at : (front : List ℕ) (m n : ℕ) (xs ys : List ℕ) → m < n → slice_cmp nat_cmp (front ++ m ∷ xs) (front ++ n ∷ ys) ≡ Less
less_at [] m n xs ys below = ap (λ o. ordering_then o (slice_cmp nat_cmp xs ys)) (sym (nat_cmp_is m n Less below))
less_at (x ∷ front) m n xs ys below =
    ap (λ o. ordering_then o (slice_cmp nat_cmp (front ++ m ∷ xs) (front ++ n ∷ ys))) (tied_itself nat_cmp_total x) ∙ less_at front m n xs ys below

-- rising lists of which each of the first is less than each of the second
pub rising_append : {K : Type 0} (cmp : K → K → Ordering) (xs ys : List K) → IsStrictlySortedBy cmp xs → IsStrictlySortedBy cmp ys →
    All (λ x. All (λ y. cmp x y ≡ Less) ys) xs → IsStrictlySortedBy cmp (xs ++ ys)
unfolding IsStrictlySortedBy
rising_append cmp [] ys first second less = second
rising_append cmp (x ∷ xs) ys first second less = (
  recursion_from_All (λ y. cmp x y ≡ Less) (xs ++ ys)
      (All-append (λ y. cmp x y ≡ Less) xs ys (All-from_recursion (λ y. cmp x y ≡ Less) xs first.0) (All-head (λ z. All (λ y. cmp z y ≡ Less) ys) x xs less)),
  rising_append cmp xs ys first.1 second (All-tail (λ z. All (λ y. cmp z y ≡ Less) ys) x xs less),
)
