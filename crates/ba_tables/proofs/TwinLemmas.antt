-- In an order of rows, those that clash on its columns stand beside each other.
use Rattle.std.proofs.Common.{◌≡◌, ℕ, ◌+◌, ◌-◌, ◌<◌, ◌≤◌, inl, inr, Bool, true, false, List, [], length, map, get_or, Option, Some, None, refl, sym, ap, ◌∙◌, subst, arith}
use Rattle.std.proofs.lemmas.Bool.{cases_order}
use Rattle.std.proofs.lemmas.Grind.{get_or_default_zero}
use Rattle.std.proofs.lemmas.List.Sorted.{searchable_from_sorted}
use Rattle.std.proofs.lemmas.Option.{slice_get_within}
use Rattle.std.proofs.lemmas.List.Elements.{All-contains}
use Rattle.std.specs.List.{All, Contains}
use Rattle.std.specs.List.Sorted.{IsSortedByKey}
use Rattle.std.specs.Option.{unwrap_or}
use Rattle.std.specs.Ordering.{eq_by_cmp, is_eq, ordering_index}
use Rattle.std.specs.Prelude.{option_and_then, slice_get}
use Rattle.std.specs.declared.cmp.Ordering.{Ordering}
use Rattle.std.specs.declared.cmp.Ordering.TheVariants.{Less, Equal, Greater}
use Rattle.ba_index.specs.Orders.{values_at, AreNumbers, IsInOrder, IsOrderOf}
use Rattle.ba_index.specs.declared.order.Order.{Order}
use Rattle.ba_model.specs.Meaning.{rows_of}
use Rattle.ba_model.specs.Order.{row_cmp}
use Rattle.ba_model.specs.OrderLaws.{row_equal, row_total}
use Rattle.ba_model.specs.declared.value.RowSet.{RowSet}
use Rattle.ba_model.specs.declared.value.Value.{Value}
use Rattle.ba_model.specs.declared.value.Value.TheVariants.{Null}
use Rattle.ba_tables.specs.Broken.{agrees, clash_after, has_no_null}
use Rattle.ba_tables.specs.Index.{are_twins, values_on}
use Rattle.ba_tables.proofs.AgreeLemmas.{agrees_is, both, halves, row_test, row_told}
use Rattle.ba_tables.proofs.FoundLemmas.{FirstClash, clash_first}

-- the values at a row's number are the row's
pub values_there : (rows : List (List Value)) (columns : List ℕ) (n : ℕ) (row : List Value) → slice_get rows n ≡ Some row → values_at rows columns n ≡ values_on row columns
values_there rows columns n row e = ap (λ (o : Option (List Value)). map (λ column. unwrap_or (option_and_then (λ (r : List Value). slice_get r column) o) Null) columns) e

between : (o : Ordering) → ordering_index Equal ≤ ordering_index o → ordering_index o ≤ ordering_index Equal → o ≡ Equal
between Less h k = absurd (omega arith)
between Equal h k = refl
between Greater h k = absurd (omega arith)

equal_of : (o : Ordering) → is_eq o ≡ true → o ≡ Equal
equal_of Less e = cc
equal_of Equal e = refl
equal_of Greater e = cc

cmp_same : (a b : List Value) → a ≡ b → row_cmp a b ≡ Equal
cmp_same a b e = equal_of (row_cmp a b) (row_test a b e)

-- what stands between equal ones is equal to them
squeezed : (a b c : List Value) → a ≡ c → ordering_index (row_cmp a a) ≤ ordering_index (row_cmp b a) → ordering_index (row_cmp b a) ≤ ordering_index (row_cmp c a) → a ≡ b
squeezed a b c same low high =
    sym (row_equal b a (between (row_cmp b a)
    (subst (λ o. ordering_index o ≤ ordering_index (row_cmp b a)) (cmp_same a a refl) low)
    (subst (λ o. ordering_index (row_cmp b a) ≤ ordering_index o) (cmp_same c a (sym same)) high)))

beside_equal : (rows : List (List Value)) (columns : List ℕ) (xs : List ℕ) (p q : ℕ) → IsSortedByKey (values_at rows columns) row_cmp xs → p < q → q < length xs → values_at rows columns (get_or xs p 0) ≡ values_at rows columns (get_or xs q 0)
    → values_at rows columns (get_or xs p 0) ≡ values_at rows columns (get_or xs (p + 1) 0)
beside_equal rows columns xs p q up less within same =
    squeezed (values_at rows columns (get_or xs p 0)) (values_at rows columns (get_or xs (p + 1) 0)) (values_at rows columns (get_or xs q 0)) same
    (searchable_from_sorted row_total (values_at rows columns) xs (values_at rows columns (get_or xs p 0)) up p (p + 1) 0 (omega arith) (omega arith))
    (searchable_from_sorted row_total (values_at rows columns) xs (values_at rows columns (get_or xs p 0)) up (p + 1) q 0 (omega arith) within)

place_of : (xs : List ℕ) (n : ℕ) → Contains xs n → (k : ℕ) × (k < length xs) × (get_or xs k 0 ≡ n)
place_of xs n h = (h.0, h.1, sym (get_or_default_zero xs h.0 n h.1) ∙ h.2)

told_both : (b : Bool) → b ≡ true → b ≡ false → ⊥
told_both b t f = cc

-- no two rows beside each other in the order are twins
pub record NoTwins (rows : List (List Value)) (columns xs : List ℕ) : Type 0 where
  pub none : (k : ℕ) → k + 1 < length xs → are_twins rows columns (get_or xs k 0) (get_or xs (k + 1) 0) ≡ false

module _ (rows : List (List Value)) (columns xs : List ℕ) (are : AreNumbers (length rows) xs) (up : IsSortedByKey (values_at rows columns) row_cmp xs) (apart : NoTwins rows columns xs) where
  -- rows at two places that clash
  clash_at : (p q : ℕ) (row other : List Value) → p < q → q < length xs → slice_get rows (get_or xs p 0) ≡ Some row → slice_get rows (get_or xs q 0) ≡ Some other → has_no_null row columns ≡ true → values_on row columns ≡ values_on other columns → ⊥
  clash_at p q row other less within e f whole same =
      let equal : values_at rows columns (get_or xs p 0) ≡ values_at rows columns (get_or xs q 0) = values_there rows columns (get_or xs p 0) row e ∙ same ∙ sym (values_there rows columns (get_or xs q 0) other f) in
      let tie = row_test (values_at rows columns (get_or xs p 0)) (values_at rows columns (get_or xs (p + 1) 0)) (beside_equal rows columns xs p q up less within equal) in
      let own : has_no_null (unwrap_or (slice_get rows (get_or xs p 0)) []) columns ≡ true = subst (λ (o : Option (List Value)). has_no_null (unwrap_or o []) columns ≡ true) (sym e) whole in
      told_both (are_twins rows columns (get_or xs p 0) (get_or xs (p + 1) 0)) (both _ _ tie own) (apart.none p (omega arith))

  clash_of : (i j : ℕ) (earlier later : List Value) → i < j → slice_get rows i ≡ Some earlier → slice_get rows j ≡ Some later → has_no_null earlier columns ≡ true → has_no_null later columns ≡ true → values_on earlier columns ≡ values_on later columns → ⊥
  clash_of i j earlier later less e f whole rest same =
      let (p, within, at) = place_of xs i (are.all i (slice_get_within rows i earlier e)) in
      let (q, inside, there) = place_of xs j (are.all j (slice_get_within rows j later f)) in
      let own : slice_get rows (get_or xs p 0) ≡ Some earlier = subst (λ n. slice_get rows n ≡ Some earlier) (sym at) e in
      let other : slice_get rows (get_or xs q 0) ≡ Some later = subst (λ n. slice_get rows n ≡ Some later) (sym there) f in
      elim (cases_order p q) [
        | inl one ↦ let both_at : get_or xs p 0 ≡ get_or xs q 0 = ap (λ k. get_or xs k 0) one in absurd (omega arith)
        | inr (inl before) ↦ clash_at p q earlier later before inside own other whole same
        | inr (inr after) ↦ clash_at q p later earlier after within other own rest (sym same)
      ]

  clashing : (first second : ℕ) → FirstClash columns [] rows first second → ⊥
  clashing first second h =
      let t = halves (has_no_null h.later columns) (agrees h.later columns h.earlier columns) h.clash in
      let u = halves (has_no_null h.earlier columns) (eq_by_cmp row_cmp (values_on h.earlier columns) (values_on h.later columns)) (sym (agrees_is h.later columns h.earlier columns t.0) ∙ t.1) in
      let below = h.below in
      clash_of h.i h.j h.earlier h.later (omega arith) h.earlier_is h.later_is u.0 t.0 (row_told (values_on h.earlier columns) (values_on h.later columns) u.1)

  pub none_clash : clash_after columns [] rows ≡ None
  none_clash = by (clash_after columns [] rows) refl
    where
      by : (o : Option (ℕ × ℕ)) → clash_after columns [] rows ≡ o → clash_after columns [] rows ≡ None
      by None e = e
      by (Some p) e = absurd (clashing p.0 p.1 (clash_first columns [] rows p.0 p.1 e))

-- the same of an order
pub order_clash : (rows : List (List Value)) (order : Order) (xs : List ℕ) → IsInOrder rows order → xs ≡ order.numbers → NoTwins rows order.columns xs → clash_after order.columns [] rows ≡ None
order_clash rows order xs is e apart = none_clash rows order.columns xs (subst (AreNumbers (length rows)) (sym e) is.numbers) (subst (IsSortedByKey (values_at rows order.columns) row_cmp) (sym e) is.sorted) apart

-- the pairs before a place, and one more
pub record Apart (rows : List (List Value)) (columns xs : List ℕ) (i : ℕ) : Type 0 where
  pub none : (k : ℕ) → k + 1 < i → are_twins rows columns (get_or xs k 0) (get_or xs (k + 1) 0) ≡ false

pub first_apart : (rows : List (List Value)) (columns xs : List ℕ) → Apart rows columns xs 1
first_apart rows columns xs = record { none = λ k h. absurd (omega arith) }

pub more_apart : (rows : List (List Value)) (columns xs : List ℕ) (i : ℕ) → 1 ≤ i → Apart rows columns xs i → are_twins rows columns (get_or xs (i - 1) 0) (get_or xs i 0) ≡ false → Apart rows columns xs (i + 1)
more_apart rows columns xs i low h e = record { none = by }
  where
    by : (k : ℕ) → k + 1 < i + 1 → are_twins rows columns (get_or xs k 0) (get_or xs (k + 1) 0) ≡ false
    by k less =
        elim (cases_order (k + 1) i) [
          | inl here ↦
              let before : i - 1 ≡ k = omega arith in
              subst (λ n. are_twins rows columns (get_or xs n 0) (get_or xs (k + 1) 0) ≡ false) before (subst (λ n. are_twins rows columns (get_or xs (i - 1) 0) (get_or xs n 0) ≡ false) (sym here) e)
          | inr (inl earlier) ↦ h.none k earlier
          | inr (inr later) ↦ absurd (omega arith)
        ]

pub all_apart : (rows : List (List Value)) (columns xs : List ℕ) (i : ℕ) → length xs ≤ i → Apart rows columns xs i → NoTwins rows columns xs
all_apart rows columns xs i le h = record { none = λ k less. h.none k (omega arith) }

-- the place of a number that is read is a row's
pub row_there : (rows : List (List Value)) (order : Order) (xs : List ℕ) (k : ℕ) → IsInOrder rows order → xs ≡ order.numbers → k < length xs → get_or xs k 0 < length rows
row_there rows order xs k is e less = (subst (AreNumbers (length rows)) (sym e) is.numbers).below k 0 less

-- an order that was found among those of a database
pub order_is : (d : RowSet) (orders : List Order) (order : Order) (table : ℕ) (own : List (List Value)) → All (IsOrderOf d) orders → Contains orders order → order.table ≡ table → own ≡ rows_of d table → IsInOrder own order
order_is d orders order table own h there of own_is =
    subst (λ rs. IsInOrder rs order) (sym own_is) (subst (λ n. IsInOrder (rows_of d n) order) of (All-contains (IsOrderOf d) orders order h there))

pub clash_none_told : (d : RowSet) (table : ℕ) (key columns : List ℕ) (own : List (List Value)) (twins : Bool) → twins ≡ false → (twins ≡ false → clash_after columns [] own ≡ None) → columns ≡ key → own ≡ rows_of d table → None ≡ clash_after key [] (rows_of d table)
clash_none_told d table key columns own twins told h e f = sym (subst (λ rs. clash_after key [] rs ≡ None) f (subst (λ cs. clash_after cs [] own ≡ None) e (h told)))
