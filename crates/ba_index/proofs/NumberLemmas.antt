-- The numbers below a bound, one after another and in any order.
use Rattle.std.proofs.Common.{◌≡◌, ℕ, zero, suc, ◌+◌, ◌<◌, ◌⊎◌, inl, inr, Bool, false, List, [], ◌∷◌, ◌++◌, eqb, length, refl, sym, ap, subst, arith}
use Rattle.std.proofs.lemmas.Bool.Decides.{nat_tests}
use Rattle.std.proofs.lemmas.List.Elements.{All-from_recursion, All-head, All-nil, All-push, All-tail, All-weaker, Contains-push, Contains-append_left, recursion_from_All}
use Rattle.std.proofs.lemmas.List.Sorted.{All-permutation, Contains-permutation}
use Rattle.std.proofs.lemmas.Map.Keys.{IsDistinct-IsPermutation}
use Rattle.std.specs.List.{All, Contains, IsDistinct}
use Rattle.std.specs.List.Sorted.{IsPermutation, IsSortedByKey}
use Rattle.ba_model.specs.Meaning.{rows_of}
use Rattle.ba_model.specs.Order.{row_cmp}
use Rattle.ba_model.specs.declared.value.RowSet.{RowSet}
use Rattle.ba_model.specs.declared.value.Value.{Value}
use Rattle.ba_index.specs.Orders.{values_at, AreNumbers, IsInOrder, IsOrderOf}
use Rattle.ba_index.specs.declared.order.Order.{Order}

distinct_push : {X : Type 0} (e : X → X → Bool) (xs : List X) (y : X) → All (λ x. e x y ≡ false) xs → IsDistinct e xs → IsDistinct e (xs ++ y ∷ [])
unfolding IsDistinct
distinct_push e [] y new h = (tt, tt)
distinct_push e (x ∷ xs) y new h =
    let of_x = All-push (λ z. e x z ≡ false) xs y (All-from_recursion (λ z. e x z ≡ false) xs h.0) (All-head (λ x. e x y ≡ false) x xs new) in
    (recursion_from_All (λ z. e x z ≡ false) (xs ++ y ∷ []) of_x, distinct_push e xs y (All-tail (λ x. e x y ≡ false) x xs new) h.1)

apart : (n m : ℕ) → n < m → eqb n m ≡ false
apart n m h = grind (arith, nat_tests)

flips : (n m : ℕ) → eqb n m ≡ eqb m n
flips n m = grind (arith, nat_tests)

earlier_or_here : (k n : ℕ) → k < n + 1 → (k < n) ⊎ (k ≡ n)
earlier_or_here zero zero h = inr refl
earlier_or_here zero (suc n) h = inl (omega arith)
earlier_or_here (suc k) zero h = absurd (omega arith)
earlier_or_here (suc k) (suc n) h = elim (earlier_or_here k n (omega arith)) [ inl e ↦ inl (omega arith) | inr e ↦ inr (ap suc e) ]

pub no_numbers : AreNumbers 0 []
unfolding IsDistinct
no_numbers = record { below = All-nil (λ number. number < 0); all = λ number h. absurd (omega arith); distinct = tt }

pub one_more : (n : ℕ) (numbers : List ℕ) → AreNumbers n numbers → AreNumbers (n + 1) (numbers ++ n ∷ [])
one_more n numbers h = record {
  below = All-push (λ number. number < n + 1) numbers n (All-weaker (λ number. number < n) (λ number. number < n + 1) (λ number k. omega arith) numbers h.below) (omega arith);
  all = λ number k.
      elim (earlier_or_here number n k) [
        | inl early ↦ Contains-append_left numbers (n ∷ []) number (h.all number early)
        | inr here ↦ subst (Contains (numbers ++ n ∷ [])) (sym here) (Contains-push numbers n)
      ];
  distinct = distinct_push eqb numbers n (All-weaker (λ number. number < n) (λ number. eqb number n ≡ false) (λ number k. apart number n k) numbers h.below) h.distinct;
}

-- the order of the numbers doesn't matter
pub numbers_moved : (n : ℕ) (old new : List ℕ) → IsPermutation old new → AreNumbers n old → AreNumbers n new
numbers_moved n old new moved h = record {
  below = All-permutation (λ number. number < n) old new moved h.below;
  all = λ number k. Contains-permutation old new number moved (h.all number k);
  distinct = IsDistinct-IsPermutation eqb flips old new moved h.distinct;
}

pub order_made : (rows : List (List Value)) (order : Order) (columns old new : List ℕ) → order.numbers ≡ new → columns ≡ order.columns → AreNumbers (length rows) old → IsPermutation old new → IsSortedByKey (values_at rows columns) row_cmp new → IsInOrder rows order
order_made rows order columns old new e f h moved up = record {
  numbers = subst (AreNumbers (length rows)) (sym e) (numbers_moved (length rows) old new moved h);
  sorted = subst (IsSortedByKey (values_at rows order.columns) row_cmp) (sym e) (subst (λ cs. IsSortedByKey (values_at rows cs) row_cmp new) f up);
}

pub orders_more : (d : RowSet) (orders new : List Order) (order : Order) (table : ℕ) (rows : List (List Value)) → new ≡ orders ++ order ∷ [] → All (IsOrderOf d) orders → order.table ≡ table → rows ≡ rows_of d table → IsInOrder rows order → All (IsOrderOf d) new
orders_more d orders new order table rows e h f g is =
    subst (All (IsOrderOf d)) (sym e) (All-push (IsOrderOf d) orders order h (subst (λ n. IsInOrder (rows_of d n) order) (sym f) (subst (λ rs. IsInOrder rs order) g is)))
