-- The entries with one key stand beside each other where entries stand by key.
use Rattle.std.proofs.Common.{◌≡◌, ℕ, zero, suc, ◌+◌, ◌-◌, ◌<◌, ◌≤◌, ◌⊎◌, inl, inr, Bool, true, false, List, [], ◌∷◌, length, take, drop, refl, sym, ◌∙◌, subst, arith}
use Rattle.std.proofs.lemmas.List.{get_or-take, get_or-drop, take_all, take-append-drop, length-take-le, length-drop}
use Rattle.std.proofs.lemmas.List.Elements.{All-contains, All-from_recursion, All-take, Contains-append_cases, Contains-append_left, Contains-append_right, Contains-get_or, recursion_from_All}
use Rattle.std.proofs.lemmas.List.Sorted.{searchable_from_sorted, IsNonDecreasingBy-drop}
use Rattle.std.specs.List.{All, Contains, IsDistinct}
use Rattle.std.specs.List.Sorted.{IsNonDecreasingBy, IsPartitionedBy, IsPartitionPoint, IsSortedByKey}
use Rattle.std.specs.Ordering.{is_eq, is_lt, is_le, ordering_index}
use Rattle.std.specs.declared.cmp.Ordering.{Ordering}
use Rattle.std.specs.declared.cmp.Ordering.TheVariants.{Less, Equal, Greater}
use Rattle.ba_model.specs.Order.{row_cmp}
use Rattle.ba_model.specs.OrderLaws.{row_decides, row_equal, row_ties, row_total}
use Rattle.ba_model.specs.declared.value.Value.{Value}
use Rattle.ba_eval.specs.Index.{key_of, same_number, HaveKey}
use Rattle.ba_eval.specs.declared.place.Entry.{Entry}

lt_down : (a b : Ordering) → ordering_index a ≤ ordering_index b → is_lt b ≡ true → is_lt a ≡ true
lt_down Less b h e = refl
lt_down Equal Less h e = absurd (omega arith)
lt_down Equal Equal h e = cc
lt_down Equal Greater h e = cc
lt_down Greater Less h e = absurd (omega arith)
lt_down Greater Equal h e = cc
lt_down Greater Greater h e = cc

le_down : (a b : Ordering) → ordering_index a ≤ ordering_index b → is_le b ≡ true → is_le a ≡ true
le_down Less b h e = refl
le_down Equal b h e = refl
le_down Greater Less h e = absurd (omega arith)
le_down Greater Equal h e = absurd (omega arith)
le_down Greater Greater h e = cc

is_equal_of : (o : Ordering) → is_eq o ≡ true → o ≡ Equal
is_equal_of Less e = cc
is_equal_of Equal e = refl
is_equal_of Greater e = cc

row_tied : (a : List Value) → row_cmp a a ≡ Equal
row_tied a = is_equal_of _ (sym (row_ties a a) ∙ (row_decides a a).1 refl)

tie_between : (o : Ordering) → is_lt o ≡ false → is_le o ≡ true → o ≡ Equal
tie_between Less h e = cc
tie_between Equal h e = refl
tie_between Greater h e = cc

ties_of_same : (a b : List Value) → a ≡ b → row_cmp a b ≡ Equal
ties_of_same a b same = subst (λ x. row_cmp a x ≡ Equal) same (row_tied a)

module _ (key : List Value) where
  abbrev pub order : Entry → Ordering
  order e = row_cmp (key_of e) key

  pub rises : (xs : List Entry) → IsSortedByKey key_of row_cmp xs → IsNonDecreasingBy (λ e. ordering_index (order e)) xs
  rises xs up = searchable_from_sorted row_total key_of xs key up

  pub parted_lt : (xs : List Entry) → IsSortedByKey key_of row_cmp xs → IsPartitionedBy (λ e. is_lt (order e)) xs
  parted_lt xs up i j d before below h = lt_down _ _ (rises xs up i j d before below) h

  pub parted_le : (xs : List Entry) (n : ℕ) → IsSortedByKey key_of row_cmp xs → IsPartitionedBy (λ e. is_le (order e)) (drop n xs)
  parted_le xs n up i j d before below h =
      le_down _ _ (IsNonDecreasingBy-drop (λ e. ordering_index (order e)) n xs (rises xs up) i j d before below) h

module _ {X : Type 0} (P Q : X → Type 0) (xs : List X) (n : ℕ) (fits : n ≤ length xs) (cut : IsPartitionPoint P Q xs n) where
  pub all_before : All P (take n xs)
  all_before k d below =
      let shorter : length (take n xs) ≡ n = length-take-le n xs fits in
      let before : k < n = subst (λ m. k < m) shorter below in
      subst P (sym (get_or-take n xs k d before)) (cut.0 k d (omega arith) before)

  pub all_after : All Q (drop n xs)
  all_after k d below =
      let left : length (drop n xs) ≡ length xs - n = length-drop n xs in
      let within : k < length xs - n = subst (λ m. k < m) left below in
      subst Q (sym (get_or-drop n xs k d)) (cut.1 (n + k) d (omega arith) (omega arith))

distinct_drop : {X : Type 0} (e : X → X → Bool) (n : ℕ) (xs : List X) → IsDistinct e xs → IsDistinct e (drop n xs)
unfolding IsDistinct
distinct_drop e zero xs h = h
distinct_drop e (suc n) [] h = h
distinct_drop e (suc n) (x ∷ xs) h = distinct_drop e n xs h.1

pub distinct_take : {X : Type 0} (e : X → X → Bool) (n : ℕ) (xs : List X) → IsDistinct e xs → IsDistinct e (take n xs)
unfolding IsDistinct
distinct_take e zero xs h = tt
distinct_take e (suc n) [] h = h
distinct_take e (suc n) (x ∷ xs) h =
    (recursion_from_All (λ y. e x y ≡ false) (take n xs) (All-take (λ y. e x y ≡ false) n xs (All-from_recursion (λ y. e x y ≡ false) xs h.0)), distinct_take e n xs h.1)

in_parts : {X : Type 0} (n : ℕ) (xs : List X) (x : X) → Contains xs x → Contains (take n xs) x ⊎ Contains (drop n xs) x
in_parts n xs x h = Contains-append_cases (take n xs) (drop n xs) x (subst (λ ys. Contains ys x) (sym (take-append-drop n xs)) h)

of_later : {X : Type 0} (n : ℕ) (xs : List X) (x : X) → Contains (drop n xs) x → Contains xs x
of_later n xs x h = subst (λ ys. Contains ys x) (take-append-drop n xs) (Contains-append_right (take n xs) (drop n xs) x h)

of_earlier : {X : Type 0} (n : ℕ) (xs : List X) (x : X) → Contains (take n xs) x → Contains xs x
of_earlier n xs x h = subst (λ ys. Contains ys x) (take-append-drop n xs) (Contains-append_left (take n xs) (drop n xs) x h)

tied_not_lt : (a b : List Value) → a ≡ b → is_lt (row_cmp a b) ≡ true → ⊥
tied_not_lt a b same e = let tied : row_cmp a b ≡ Equal = ties_of_same a b same in cc

tied_le : (a b : List Value) → a ≡ b → is_le (row_cmp a b) ≡ false → ⊥
tied_le a b same e = let tied : row_cmp a b ≡ Equal = ties_of_same a b same in cc

module _ (xs : List Entry) (key : List Value) (m n : ℕ) (fits_m : m ≤ length xs) (fits_n : n ≤ length (drop m xs)) (lesser : IsPartitionPoint (λ e. is_lt (order key e) ≡ true) (λ e. is_lt (order key e) ≡ false) xs m) (same : IsPartitionPoint (λ e. is_le (order key e) ≡ true) (λ e. is_le (order key e) ≡ false) (drop m xs) n) where
  not_below : All (λ e. is_lt (order key e) ≡ false) (drop m xs)
  not_below = all_after (λ e. is_lt (order key e) ≡ true) (λ e. is_lt (order key e) ≡ false) xs m fits_m lesser

  below : All (λ e. is_lt (order key e) ≡ true) (take m xs)
  below = all_before (λ e. is_lt (order key e) ≡ true) (λ e. is_lt (order key e) ≡ false) xs m fits_m lesser

  at_most : All (λ e. is_le (order key e) ≡ true) (take n (drop m xs))
  at_most = all_before (λ e. is_le (order key e) ≡ true) (λ e. is_le (order key e) ≡ false) (drop m xs) n fits_n same

  above : All (λ e. is_le (order key e) ≡ false) (drop n (drop m xs))
  above = all_after (λ e. is_le (order key e) ≡ true) (λ e. is_le (order key e) ≡ false) (drop m xs) n fits_n same

  with_key : (e : Entry) → Contains (take n (drop m xs)) e → key_of e ≡ key
  with_key e h =
      row_equal (key_of e) key
      (tie_between (order key e)
      (All-contains (λ e. is_lt (order key e) ≡ false) (drop m xs) e not_below (of_earlier n (drop m xs) e h))
      (All-contains (λ e. is_le (order key e) ≡ true) (take n (drop m xs)) e at_most h))

  found_with : (e : Entry) → Contains xs e → key_of e ≡ key → Contains (take n (drop m xs)) e
  found_with e h is =
      elim (in_parts m xs e h) [
        | inl early ↦ absurd (tied_not_lt (key_of e) key is (All-contains (λ e. is_lt (order key e) ≡ true) (take m xs) e below early))
        | inr late ↦ elim (in_parts n (drop m xs) e late) [
          | inl here ↦ here
          | inr past ↦ absurd (tied_le (key_of e) key is (All-contains (λ e. is_le (order key e) ≡ false) (drop n (drop m xs)) e above past))
        ]
      ]

  pub have_key : HaveKey xs key (take n (drop m xs))
  have_key = record {
    sound = λ k d below. with_key _ (Contains-get_or (take n (drop m xs)) k d below);
    only = λ e h. of_later m xs e (of_earlier n (drop m xs) e h);
    complete = found_with;
    distinct = λ h. distinct_take same_number n (drop m xs) (distinct_drop same_number m xs h);
  }

-- what a slice from m on holds
pub rest_from : {X : Type 0} (xs : List X) (m : ℕ) → take (length xs - m) (drop m xs) ≡ drop m xs
rest_from xs m = take_all (length xs - m) (drop m xs) (subst (λ n. n ≤ length xs - m) (sym (length-drop m xs)) (omega arith))

-- the same over the slice from m on
pub have_key_in : (xs rest : List Entry) (key : List Value) (m n : ℕ) → rest ≡ drop m xs → m ≤ length xs → n ≤ length rest → IsPartitionPoint (λ e. is_lt (order key e) ≡ true) (λ e. is_lt (order key e) ≡ false) xs m → IsPartitionPoint (λ e. is_le (order key e) ≡ true) (λ e. is_le (order key e) ≡ false) rest n → HaveKey xs key (take n rest)
have_key_in xs rest key m n e fits_m fits_n lesser same =
    subst (λ ys. HaveKey xs key (take n ys)) (sym e)
    (have_key xs key m n fits_m (subst (λ ys. n ≤ length ys) e fits_n) lesser (subst (λ ys. IsPartitionPoint (λ e. is_le (order key e) ≡ true) (λ e. is_le (order key e) ≡ false) ys n) e same))

pub parted_le_in : (xs rest : List Entry) (key : List Value) (m : ℕ) → rest ≡ drop m xs → IsSortedByKey key_of row_cmp xs → IsPartitionedBy (λ e. is_le (order key e)) rest
parted_le_in xs rest key m e up = subst (IsPartitionedBy (λ e. is_le (order key e))) (sym e) (parted_le key xs m up)
