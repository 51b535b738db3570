-- Rows, each once: lists that rise, and sets of rows.
use Rattle.std.proofs.Common.{◌≡◌, ◌∙◌, ℕ, ◌+◌, ◌-◌, ◌<◌, ◌≤◌, Bool, true, false, IsTrue, List, [], ◌∷◌, ◌++◌, Contains, Some, None, ap, arith, cond, get_or, inl, inr, length, not, refl, subst, sym, take, ⊎_elim, ◌↔◌}
use Rattle.std.proofs.lemmas.Bool.{cases_lt, false≢true}
use Rattle.std.proofs.lemmas.List.{get_or_append_left, get_or_push, length_push, take_more}
use Rattle.std.proofs.lemmas.List.Elements.{All-contains, Contains-append_left, Contains-push, Contains-push_cases}
use Rattle.std.proofs.lemmas.Map.Keys.{Less-from_sorted, sorted_from_all_adjacent}
use Rattle.std.proofs.lemmas.Map.Views.{All-before_last}
use Rattle.std.proofs.lemmas.Option.{none-some, same_Some, slice_get-get_or, slice_get_within}
use Rattle.std.specs.BTreeSet.{BTreeSet, IsEmpty, contains}
use Rattle.std.specs.Cmp.{tied_itself}
use Rattle.std.specs.List.Sorted.{IsStrictlySortedBy}
use Rattle.std.specs.Ordering.{eq_by_cmp, is_lt}
use Rattle.std.specs.Prelude.{slice_get}
use Rattle.std.specs.declared.cmp.Ordering.{Ordering}
use Rattle.std.specs.declared.cmp.Ordering.TheVariants.{Less, Equal, Greater}
use Rattle.ba_model.proofs.ElementLemmas.{Contains-head, Contains-nil}
use Rattle.ba_model.specs.Order.{row_cmp}
use Rattle.ba_model.specs.OrderLaws.{row_decides, row_ties, row_total}
use Rattle.ba_model.specs.declared.value.Value.{Value}
use Rattle.ba_refute.specs.Once.{AreSeen, IsSetOf, IsWith}
use Rattle.ba_refute.proofs.LoopLemmas.{is_true}

-- ---- rising rows

pub first_rises : (row : List Value) → IsStrictlySortedBy row_cmp ([] ++ row ∷ [])
first_rises row = sorted_from_all_adjacent row_total (row ∷ []) [] (λ k within. absurd (omega (arith, within)))

pub last_rises : (rows : List (List Value)) (last row : List Value) → 0 < length rows → get_or rows (length rows - 1) [] ≡ last → row_cmp last row ≡ Less → IsStrictlySortedBy row_cmp rows →
    IsStrictlySortedBy row_cmp (rows ++ row ∷ [])
last_rises rows last row some is less rising =
    sorted_from_all_adjacent row_total (rows ++ row ∷ []) []
    (λ k within. ⊎_elim
    (λ (old : k + 1 < length rows).
    subst (λ r. row_cmp r (get_or (rows ++ row ∷ []) (k + 1) []) ≡ Less) (sym (get_or_append_left rows (row ∷ []) [] k (omega (arith, old))))
    (subst (λ r. row_cmp (get_or rows k []) r ≡ Less) (sym (get_or_append_left rows (row ∷ []) [] (k + 1) old))
    (Less-from_sorted row_cmp rows k (k + 1) [] rising (omega arith) old)))
    (λ (past : length rows ≤ k + 1).
    let long = length_push rows row in
    let end : length rows ≡ k + 1 = omega (arith, past, within, long) in
    let low : length rows - 1 ≡ k = omega (arith, end) in
    let before : k < length rows = omega (arith, end) in
    subst (λ r. row_cmp r (get_or (rows ++ row ∷ []) (k + 1) []) ≡ Less) (sym (get_or_append_left rows (row ∷ []) [] k before ∙ ap (λ n. get_or rows n []) (sym low) ∙ is))
    (subst (λ r. row_cmp last r ≡ Less) (sym (get_or_push rows row [] (k + 1) end)) less))
    (cases_lt (k + 1) (length rows)))

last_told : (rows : List (List Value)) (last row : List Value) → Some last ≡ slice_get rows (length rows - 1) → row_cmp last row ≡ Less → IsStrictlySortedBy row_cmp rows → IsStrictlySortedBy row_cmp (rows ++ row ∷ [])
last_told rows last row told less rising =
    let within : length rows - 1 < length rows = slice_get_within rows (length rows - 1) last (sym told) in
    let is : get_or rows (length rows - 1) [] ≡ last = same_Some (get_or rows (length rows - 1) []) last (sym (slice_get-get_or rows (length rows - 1) [] within) ∙ sym told) in
    last_rises rows last row (omega (arith, within)) is less rising

pub above_last : (rows : List (List Value)) (last row : List Value) (order : Ordering) (answer : Bool) → Some last ≡ slice_get rows (length rows - 1) → order ≡ row_cmp last row → answer ≡ is_lt order → IsTrue answer →
    IsStrictlySortedBy row_cmp rows → IsStrictlySortedBy row_cmp (rows ++ row ∷ [])
above_last rows last row Less answer told is lt holds = last_told rows last row told (sym is)
above_last rows last row Equal answer told is lt holds = let none : IsTrue false = subst IsTrue lt holds in cc
above_last rows last row Greater answer told is lt holds = let none : IsTrue false = subst IsTrue lt holds in cc

pub above_none : (rows : List (List Value)) (row : List Value) → None ≡ slice_get rows (length rows - 1) → IsStrictlySortedBy row_cmp (rows ++ row ∷ [])
above_none [] row told = first_rises row
above_none (r ∷ rows) row told =
    let within : length (r ∷ rows) - 1 < length (r ∷ rows) = omega arith in
    absurd (none-some (get_or (r ∷ rows) (length (r ∷ rows) - 1) []) (told ∙ slice_get-get_or (r ∷ rows) (length (r ∷ rows) - 1) [] within))

-- what rises above all is none of them
pub risen_is_new : (rows : List (List Value)) (row : List Value) → IsStrictlySortedBy row_cmp (rows ++ row ∷ []) → ¬ (Contains rows row)
risen_is_new rows row rising there =
    let less : row_cmp row row ≡ Less = All-contains (λ q. row_cmp q row ≡ Less) rows row (All-before_last row_cmp rows row rising) there in
    let tie : row_cmp row row ≡ Equal = tied_itself row_total row in
    cc

-- ---- sets of rows

none_contained : (set : BTreeSet (List Value)) (r : List Value) → IsEmpty set → ¬ (IsTrue (contains row_cmp set r))
none_contained set r empty h = let none : contains row_cmp set r ≡ false = rw empty refl in let e : IsTrue false = subst IsTrue none h in cc

pub none_seen : (set : BTreeSet (List Value)) → IsEmpty set → IsSetOf [] set
none_seen set empty r = (λ h. absurd (none_contained set r empty h), λ h. absurd (Contains-nil r h))

-- an empty set has seen rising rows alone
pub unseen_rise : (rows : List (List Value)) (set : BTreeSet (List Value)) → AreSeen rows set → IsEmpty set → IsStrictlySortedBy row_cmp rows
unseen_rise rows set (inr h) empty = h.1
unseen_rise [] set (inl h) empty = sorted_from_all_adjacent row_total [] [] (λ k within. absurd (omega (arith, within)))
unseen_rise (row ∷ rows) set (inl h) empty = absurd (none_contained set row empty ((h row).1 (Contains-head row rows)))

pub seen_whole : (rows : List (List Value)) (set : BTreeSet (List Value)) → AreSeen rows set → ¬ (IsEmpty set) → IsSetOf rows set
seen_whole rows set (inl h) some = h
seen_whole rows set (inr h) some = absurd (some h.0)

same_told : (row r : List Value) → row ≡ r → eq_by_cmp row_cmp row r ≡ true
same_told row r same = sym (row_ties row r) ∙ (row_decides row r).1 same

told_same : (row r : List Value) → eq_by_cmp row_cmp row r ≡ true → row ≡ r
told_same row r e = (row_decides row r).0 (row_ties row r ∙ e)

module _ (rows : List (List Value)) (row : List Value) (set new : BTreeSet (List Value)) (so_far : IsSetOf rows set)
    (updates : (q : List Value) → contains row_cmp new q ≡ cond (eq_by_cmp row_cmp row q) true (contains row_cmp set q)) where
  pub seen_more : IsSetOf (rows ++ row ∷ []) new
  seen_more r = by (eq_by_cmp row_cmp row r) refl
    where
      by : (b : Bool) → eq_by_cmp row_cmp row r ≡ b → IsTrue (contains row_cmp new r) ↔ Contains (rows ++ row ∷ []) r
      by true e =
          let told : contains row_cmp new r ≡ true = updates r ∙ ap (λ b. cond b true (contains row_cmp set r)) e in
          (λ h. subst (Contains (rows ++ row ∷ [])) (told_same row r e) (Contains-push rows row), λ h. subst IsTrue (sym told) is_true)
      by false e =
          let told : contains row_cmp new r ≡ contains row_cmp set r = updates r ∙ ap (λ b. cond b true (contains row_cmp set r)) e in (
            λ h. Contains-append_left rows (row ∷ []) r ((so_far r).0 (subst IsTrue told h)),
            λ h. ⊎_elim
                (λ (old : Contains rows r). subst IsTrue (sym told) ((so_far r).1 old))
                (λ (same : row ≡ r). absurd (false≢true (sym e ∙ same_told row r same)))
                (Contains-push_cases rows row r h),
          )

  -- where it was seen before, the set has no more
  pub seen_again : Contains rows row → IsSetOf rows new
  seen_again there r = (
    λ h. ⊎_elim (λ (old : Contains rows r). old) (λ (same : row ≡ r). subst (Contains rows) same there) (Contains-push_cases rows row r ((seen_more r).0 h)),
    λ h. (seen_more r).1 (Contains-append_left rows (row ∷ []) r h),
  )

  was_new : (b : Bool) → b ≡ not (contains row_cmp set row) → b ≡ true → ¬ (Contains rows row)
  was_new b is new there = by (contains row_cmp set row) ((so_far row).1 there) (sym is ∙ new)
    where
      by : (b : Bool) → IsTrue b → not b ≡ true → ⊥
      by true t e = cc e
      by false t e = cc t

  was_seen : (b : Bool) → b ≡ not (contains row_cmp set row) → b ≡ false → Contains rows row
  was_seen b is old = (so_far row).0 (by (contains row_cmp set row) (sym is ∙ old))
    where
      by : (b : Bool) → not b ≡ false → IsTrue b
      by true e = is_true
      by false e = cc e

  pub with_new : (b : Bool) (grown : List (List Value)) → b ≡ not (contains row_cmp set row) → b ≡ true → grown ≡ rows ++ row ∷ [] → IsWith rows row grown × IsSetOf grown new
  with_new b grown is added more = (inr (was_new b is added, more), subst (λ rs. IsSetOf rs new) (sym more) seen_more)

  pub with_old : (b : Bool) → b ≡ not (contains row_cmp set row) → b ≡ false → IsWith rows row rows × IsSetOf rows new
  with_old b is old = let there = was_seen b is old in (inl (there, refl), seen_again there)

pub set_next : (rows : List (List Value)) (i : ℕ) (row key : List Value) (set new : BTreeSet (List Value)) → i < length rows → row ≡ get_or rows i row → key ≡ row → IsSetOf (take i rows) set →
    ((q : List Value) → contains row_cmp new q ≡ cond (eq_by_cmp row_cmp key q) true (contains row_cmp set q)) → IsSetOf (take (i + 1) rows) new
set_next rows i row key set new less is same so_far updates =
    subst (λ rs. IsSetOf rs new) (ap (λ r. take i rows ++ r ∷ []) (same ∙ is) ∙ sym (take_more rows i row less)) (seen_more (take i rows) key set new so_far updates)

-- ---- a row more

keys_none : (keys : List (List Value)) → length keys ≡ 0 → keys ≡ []
keys_none [] none = refl
keys_none (k ∷ keys) none = absurd (omega (arith, none))

pub risen : (rows seen grown : List (List Value)) (row : List Value) (set : BTreeSet (List Value)) → AreSeen rows set → length (set.keys) ≡ 0 → seen ≡ rows →
    (IsStrictlySortedBy row_cmp seen → IsStrictlySortedBy row_cmp (seen ++ row ∷ [])) → grown ≡ rows ++ row ∷ [] → IsWith rows row grown × AreSeen grown set
risen rows seen grown row set are none same above more =
    let empty : IsEmpty set = keys_none set.keys none in
    let before = unseen_rise rows set are empty in
    let after : IsStrictlySortedBy row_cmp (rows ++ row ∷ []) = subst (λ rs. IsStrictlySortedBy row_cmp (rs ++ row ∷ [])) same (above (subst (IsStrictlySortedBy row_cmp) (sym same) before)) in
    (inr (risen_is_new rows row after, more), inr (empty, subst (IsStrictlySortedBy row_cmp) (sym more) after))
