-- The rows with one front stand beside each other where rows stand by their values.
use Rattle.std.proofs.Common.{◌≡◌, ℕ, zero, suc, ◌+◌, ◌-◌, ◌<◌, ◌≤◌, ◌⊎◌, inl, inr, Bool, true, false, List, [], ◌∷◌, length, map, take, drop, get_or, refl, sym, ap, ◌∙◌, subst, arith}
use Rattle.std.proofs.lemmas.List.{get_or-take, get_or-drop, take_all, take-append-drop, length-take-le, length-drop}
use Rattle.std.proofs.lemmas.List.Elements.{All-contains, All-from_recursion, All-take, Contains-append_cases, Contains-append_left, Contains-append_right, Contains-get_or, recursion_from_All}
use Rattle.std.proofs.lemmas.List.Sorted.{searchable_from_sorted, IsNonDecreasingBy-drop}
use Rattle.std.specs.List.{All, Contains, IsDistinct}
use Rattle.std.specs.List.Sorted.{IsNonDecreasingBy, IsPartitionedBy, IsPartitionPoint, IsSortedByKey}
use Rattle.std.specs.Ordering.{is_eq, is_lt, is_le, ordering_index, ordering_then}
use Rattle.std.specs.declared.cmp.Ordering.{Ordering}
use Rattle.std.specs.declared.cmp.Ordering.TheVariants.{Less, Equal, Greater}
use Rattle.ba_model.specs.Order.{row_cmp, value_cmp}
use Rattle.ba_model.specs.OrderLaws.{row_decides, row_equal, row_ties, row_total}
use Rattle.ba_model.specs.declared.value.Value.{Value}
use Rattle.ba_index.specs.Orders.{values_at, AreNumbers, HasFront, HaveFront, IsInOrder}
use Rattle.ba_index.specs.declared.order.Order.{Order}

-- fronts of lists that rise, rise

then_lt : (o p q : Ordering) → (is_lt p ≡ true → is_lt q ≡ true) → is_lt (ordering_then o p) ≡ true → is_lt (ordering_then o q) ≡ true
then_lt Less p q h e = refl
then_lt Equal p q h e = h e
then_lt Greater p q h e = e

front_lt : (k : ℕ) (a b : List Value) → is_lt (row_cmp (take k a) (take k b)) ≡ true → is_lt (row_cmp a b) ≡ true
front_lt zero [] [] h = h
front_lt zero [] (y ∷ b) h = refl
front_lt zero (x ∷ a) [] h = cc
front_lt zero (x ∷ a) (y ∷ b) h = cc
front_lt (suc k) [] [] h = h
front_lt (suc k) [] (y ∷ b) h = refl
front_lt (suc k) (x ∷ a) [] h = h
front_lt (suc k) (x ∷ a) (y ∷ b) h = then_lt (value_cmp x y) _ _ (front_lt k a b) h

not_true : (a b : Bool) → (a ≡ true → b ≡ true) → b ≡ false → a ≡ false
not_true true b h e = let t : b ≡ true = h refl in cc
not_true false b h e = refl

front_of_map : {X : Type 0} (f : X → Value) (k : ℕ) (xs : List X) → map f (take k xs) ≡ take k (map f xs)
front_of_map f zero xs = refl
front_of_map f (suc k) [] = refl
front_of_map f (suc k) (x ∷ xs) = ap (λ ys. f x ∷ ys) (front_of_map f k xs)

fronts_lt : (k : ℕ) (a b c d : List Value) → c ≡ take k a → d ≡ take k b → is_lt (row_cmp a b) ≡ false → is_lt (row_cmp c d) ≡ false
fronts_lt k a b c d e f h = subst (λ x. is_lt (row_cmp x d) ≡ false) (sym e) (subst (λ y. is_lt (row_cmp (take k a) y) ≡ false) (sym f) (not_true _ _ (front_lt k a b) h))

pub fronts_rise : (rows : List (List Value)) (columns : List ℕ) (k : ℕ) (xs : List ℕ) → IsSortedByKey (values_at rows columns) row_cmp xs → IsSortedByKey (values_at rows (take k columns)) row_cmp xs
fronts_rise rows columns k xs up i d low high =
    fronts_lt k _ _ _ _ (front_of_map _ k columns) (front_of_map _ k columns) (up i d low high)

lt_down : (a b : Ordering) → ordering_index a ≤ ordering_index b → is_lt b ≡ true → is_lt a ≡ true
lt_down Less b h e = refl
lt_down Equal Less h e = absurd (omega arith)
lt_down Equal Equal h e = cc
lt_down Equal Greater h e = cc
lt_down Greater Less h e = absurd (omega arith)
lt_down Greater Equal h e = cc
lt_down Greater Greater h e = cc

le_down : (a b : Ordering) → ordering_index a ≤ ordering_index b → is_le b ≡ true → is_le a ≡ true
le_down Less b h e = refl
le_down Equal b h e = refl
le_down Greater Less h e = absurd (omega arith)
le_down Greater Equal h e = absurd (omega arith)
le_down Greater Greater h e = cc

is_equal_of : (o : Ordering) → is_eq o ≡ true → o ≡ Equal
is_equal_of Less e = cc
is_equal_of Equal e = refl
is_equal_of Greater e = cc

row_tied : (a : List Value) → row_cmp a a ≡ Equal
row_tied a = is_equal_of _ (sym (row_ties a a) ∙ (row_decides a a).1 refl)

tie_between : (o : Ordering) → is_lt o ≡ false → is_le o ≡ true → o ≡ Equal
tie_between Less h e = cc
tie_between Equal h e = refl
tie_between Greater h e = cc

ties_of_same : (a b : List Value) → a ≡ b → row_cmp a b ≡ Equal
ties_of_same a b same = subst (λ x. row_cmp a x ≡ Equal) same (row_tied a)

module _ (rows : List (List Value)) (columns : List ℕ) (key : List Value) where
  abbrev pub front : ℕ → List Value
  front number = values_at rows (take (length key) columns) number

  abbrev pub order : ℕ → Ordering
  order number = row_cmp (front number) key

  rises : (xs : List ℕ) → IsSortedByKey (values_at rows columns) row_cmp xs → IsNonDecreasingBy (λ n. ordering_index (order n)) xs
  rises xs up = searchable_from_sorted row_total front xs key (fronts_rise rows columns (length key) xs up)

  pub parted_lt : (xs : List ℕ) → IsSortedByKey (values_at rows columns) row_cmp xs → IsPartitionedBy (λ n. is_lt (order n)) xs
  parted_lt xs up i j d before below h = lt_down _ _ (rises xs up i j d before below) h

  parted_le : (xs : List ℕ) (n : ℕ) → IsSortedByKey (values_at rows columns) row_cmp xs → IsPartitionedBy (λ n. is_le (order n)) (drop n xs)
  parted_le xs n up i j d before below h =
      le_down _ _ (IsNonDecreasingBy-drop (λ n. ordering_index (order n)) n xs (rises xs up) i j d before below) h

  pub parted_le_in : (xs rest : List ℕ) (m : ℕ) → rest ≡ drop m xs → IsSortedByKey (values_at rows columns) row_cmp xs → IsPartitionedBy (λ n. is_le (order n)) rest
  parted_le_in xs rest m e up = subst (IsPartitionedBy (λ n. is_le (order n))) (sym e) (parted_le xs m up)

module _ {X : Type 0} (P Q : X → Type 0) (xs : List X) (n : ℕ) (fits : n ≤ length xs) (cut : IsPartitionPoint P Q xs n) where
  all_before : All P (take n xs)
  all_before k d below =
      let shorter : length (take n xs) ≡ n = length-take-le n xs fits in
      let before : k < n = subst (λ m. k < m) shorter below in
      subst P (sym (get_or-take n xs k d before)) (cut.0 k d (omega arith) before)

  all_after : All Q (drop n xs)
  all_after k d below =
      let left : length (drop n xs) ≡ length xs - n = length-drop n xs in
      let within : k < length xs - n = subst (λ m. k < m) left below in
      subst Q (sym (get_or-drop n xs k d)) (cut.1 (n + k) d (omega arith) (omega arith))

distinct_drop : {X : Type 0} (e : X → X → Bool) (n : ℕ) (xs : List X) → IsDistinct e xs → IsDistinct e (drop n xs)
unfolding IsDistinct
distinct_drop e zero xs h = h
distinct_drop e (suc n) [] h = h
distinct_drop e (suc n) (x ∷ xs) h = distinct_drop e n xs h.1

distinct_take : {X : Type 0} (e : X → X → Bool) (n : ℕ) (xs : List X) → IsDistinct e xs → IsDistinct e (take n xs)
unfolding IsDistinct
distinct_take e zero xs h = tt
distinct_take e (suc n) [] h = h
distinct_take e (suc n) (x ∷ xs) h =
    (recursion_from_All (λ y. e x y ≡ false) (take n xs) (All-take (λ y. e x y ≡ false) n xs (All-from_recursion (λ y. e x y ≡ false) xs h.0)), distinct_take e n xs h.1)

in_parts : {X : Type 0} (n : ℕ) (xs : List X) (x : X) → Contains xs x → Contains (take n xs) x ⊎ Contains (drop n xs) x
in_parts n xs x h = Contains-append_cases (take n xs) (drop n xs) x (subst (λ ys. Contains ys x) (sym (take-append-drop n xs)) h)

of_later : {X : Type 0} (n : ℕ) (xs : List X) (x : X) → Contains (drop n xs) x → Contains xs x
of_later n xs x h = subst (λ ys. Contains ys x) (take-append-drop n xs) (Contains-append_right (take n xs) (drop n xs) x h)

of_earlier : {X : Type 0} (n : ℕ) (xs : List X) (x : X) → Contains (take n xs) x → Contains xs x
of_earlier n xs x h = subst (λ ys. Contains ys x) (take-append-drop n xs) (Contains-append_left (take n xs) (drop n xs) x h)

tied_not_lt : (a b : List Value) → a ≡ b → is_lt (row_cmp a b) ≡ true → ⊥
tied_not_lt a b same e = let tied : row_cmp a b ≡ Equal = ties_of_same a b same in cc

tied_le : (a b : List Value) → a ≡ b → is_le (row_cmp a b) ≡ false → ⊥
tied_le a b same e = let tied : row_cmp a b ≡ Equal = ties_of_same a b same in cc

-- what a slice from m on holds
pub rest_from : {X : Type 0} (xs : List X) (m : ℕ) → take (length xs - m) (drop m xs) ≡ drop m xs
rest_from xs m = take_all (length xs - m) (drop m xs) (subst (λ n. n ≤ length xs - m) (sym (length-drop m xs)) (omega arith))

module _ (rows : List (List Value)) (it : Order) (is : IsInOrder rows it) (key : List Value) (m n : ℕ) (columns : List ℕ) (columns_are : columns ≡ it.columns) (xs : List ℕ) (are : xs ≡ it.numbers) where
  numbers : AreNumbers (length rows) xs
  numbers = subst (AreNumbers (length rows)) (sym are) is.numbers

  abbrev by : ℕ → Ordering
  by = order rows columns key

  module _ (fits_m : m ≤ length xs) (fits_n : n ≤ length (drop m xs)) (lesser : IsPartitionPoint (λ n. is_lt (by n) ≡ true) (λ n. is_lt (by n) ≡ false) xs m) (same : IsPartitionPoint (λ n. is_le (by n) ≡ true) (λ n. is_le (by n) ≡ false) (drop m xs) n) where
    not_below : All (λ n. is_lt (by n) ≡ false) (drop m xs)
    not_below = all_after (λ n. is_lt (by n) ≡ true) (λ n. is_lt (by n) ≡ false) xs m fits_m lesser

    below : All (λ n. is_lt (by n) ≡ true) (take m xs)
    below = all_before (λ n. is_lt (by n) ≡ true) (λ n. is_lt (by n) ≡ false) xs m fits_m lesser

    at_most : All (λ n. is_le (by n) ≡ true) (take n (drop m xs))
    at_most = all_before (λ n. is_le (by n) ≡ true) (λ n. is_le (by n) ≡ false) (drop m xs) n fits_n same

    above : All (λ n. is_le (by n) ≡ false) (drop n (drop m xs))
    above = all_after (λ n. is_le (by n) ≡ true) (λ n. is_le (by n) ≡ false) (drop m xs) n fits_n same

    with_front : (e : ℕ) → Contains (take n (drop m xs)) e → HasFront rows columns key e
    with_front e h =
        row_equal (front rows columns key e) key
        (tie_between (by e)
        (All-contains (λ n. is_lt (by n) ≡ false) (drop m xs) e not_below (of_earlier n (drop m xs) e h))
        (All-contains (λ n. is_le (by n) ≡ true) (take n (drop m xs)) e at_most h))

    found_with : (e : ℕ) → Contains xs e → HasFront rows columns key e → Contains (take n (drop m xs)) e
    found_with e h has =
        elim (in_parts m xs e h) [
          | inl early ↦ absurd (tied_not_lt (front rows columns key e) key has (All-contains (λ n. is_lt (by n) ≡ true) (take m xs) e below early))
          | inr late ↦ elim (in_parts n (drop m xs) e late) [
            | inl here ↦ here
            | inr past ↦ absurd (tied_le (front rows columns key e) key has (All-contains (λ n. is_le (by n) ≡ false) (drop n (drop m xs)) e above past))
          ]
        ]

    have_front : HaveFront rows it key (take n (drop m xs))
    have_front = record {
      sound = λ k d below. subst (λ cs. HasFront rows cs key (get_or (take n (drop m xs)) k d)) columns_are (with_front _ (Contains-get_or (take n (drop m xs)) k d below));
      below = λ k d below. All-contains (λ number. number < length rows) xs _ numbers.below (of_later m xs _ (of_earlier n (drop m xs) _ (Contains-get_or (take n (drop m xs)) k d below)));
      complete = λ number within has. found_with number (numbers.all number within) (subst (λ cs. HasFront rows cs key number) (sym columns_are) has);
      distinct = distinct_take Rattle.std.specs.Prelude.eqb n (drop m xs) (distinct_drop Rattle.std.specs.Prelude.eqb m xs numbers.distinct);
    }

  -- the same over the slice from m on
  pub have_front_in : (rest : List ℕ) → rest ≡ drop m xs → m ≤ length xs → n ≤ length rest → IsPartitionPoint (λ n. is_lt (by n) ≡ true) (λ n. is_lt (by n) ≡ false) xs m → IsPartitionPoint (λ n. is_le (by n) ≡ true) (λ n. is_le (by n) ≡ false) rest n → HaveFront rows it key (take n rest)
  have_front_in rest e fits_m fits_n lesser same =
      subst (λ ys. HaveFront rows it key (take n ys)) (sym e)
      (have_front fits_m (subst (λ ys. n ≤ length ys) e fits_n) lesser (subst (λ ys. IsPartitionPoint (λ n. is_le (by n) ≡ true) (λ n. is_le (by n) ≡ false) ys n) e same))

pub sorted_as : (rows : List (List Value)) (it : Order) → IsInOrder rows it → (columns : List ℕ) → columns ≡ it.columns → (xs : List ℕ) → xs ≡ it.numbers → IsSortedByKey (values_at rows columns) row_cmp xs
sorted_as rows it is columns e xs f = subst (λ cs. IsSortedByKey (values_at rows cs) row_cmp xs) (sym e) (subst (IsSortedByKey (values_at rows it.columns) row_cmp) (sym f) is.sorted)
