-- Databases whose rows stand in another order.
use Rattle.std.proofs.Common.{◌≡◌, ◌↔◌, ℕ, zero, suc, ◌+◌, ◌-◌, ◌<◌, ◌≤◌, ◌∷◌, ◌++◌, [], Bool, IsTrue, List, All, Result, Ok, Err, get_or, length, sym, subst, take, arith, ⊎_elim}
use Rattle.std.proofs.lemmas.Bool.{cases_lt}
use Rattle.std.proofs.lemmas.List.{take_all, take_more}
use Rattle.std.proofs.lemmas.List.Elements.{All-contains, All-more, All-push, All-weaker, AllZip-push}
use Rattle.std.proofs.lemmas.Map.Keys.{sorted_from_all_adjacent}
use Rattle.std.specs.List.{AllZip, slice_get}
use Rattle.std.specs.List.Sorted.{IsStrictlySortedBy}
use Rattle.std.specs.Prelude.{slice_index_or, unwrap_or}
use Rattle.std.specs.Result.{IfOk}
use Rattle.std.specs.declared.cmp.Ordering.TheVariants.{Less}
use Rattle.ba_comply.proofs.ComplyLemmas.{All-from_contains}
use Rattle.ba_eval.specs.Search.{IsRisingListOf, SameRows}
use Rattle.ba_model.specs.Conform.{KeyHolds, LinkHolds, RowFits, TableConforms}
use Rattle.ba_model.specs.Order.{row_cmp}
use Rattle.ba_model.specs.OrderLaws.{row_total}
use Rattle.ba_model.specs.declared.schema.Table.{Table}
use Rattle.ba_model.specs.declared.value.RowSet.{RowSet}
use Rattle.ba_model.specs.declared.value.Value.{Value}
use Rattle.ba_refute.specs.Counterexamples.{FitTables, IsInOrder}

-- ---- the same rows

turned : (xs ys : List (List Value)) → SameRows xs ys → SameRows ys xs
turned xs ys h = record { kept = h.only; only = h.kept }

turned_lists : (xs ys : List (List (List Value))) → AllZip SameRows xs ys → AllZip SameRows ys xs
turned_lists [] [] h = tt
turned_lists [] (y ∷ ys) h = absurd h
turned_lists (x ∷ xs) [] h = absurd h
turned_lists (x ∷ xs) (y ∷ ys) h = (turned x y h.0, turned_lists xs ys h.1)

nth_same : (xs ys : List (List (List Value))) → AllZip SameRows xs ys → (n : ℕ) → SameRows (unwrap_or (slice_get xs n) []) (unwrap_or (slice_get ys n) [])
nth_same [] [] h n = record { kept = λ r k. k; only = λ r k. k }
nth_same [] (y ∷ ys) h n = absurd h
nth_same (x ∷ xs) [] h n = absurd h
nth_same (x ∷ xs) (y ∷ ys) h zero = h.0
nth_same (x ∷ xs) (y ∷ ys) h (suc n) = nth_same xs ys h.1 n

-- ---- what conforms still does

module _ (d e : RowSet) (lists : AllZip SameRows d.tables e.tables) where
  table_same : (table : Table) (xs ys : List (List Value)) → SameRows xs ys → TableConforms d table xs → TableConforms e table ys
  table_same table xs ys same h = record {
    kinds = All-from_contains (RowFits table) ys (λ r k. All-contains (RowFits table) xs r h.kinds (same.only r k));
    keys = All-weaker (KeyHolds xs) (KeyHolds ys) (λ key holds r s there other no match. holds r s (same.only r there) (same.only s other) no match) table.keys h.keys;
    links = All-weaker (LinkHolds d xs) (LinkHolds e ys)
        (λ link holds r there no.
        let it = holds r (same.only r there) no in
        (it.0, (nth_same d.tables e.tables lists link.target).kept it.0 it.1, it.2))
        table.links h.links;
  }

  tables_same : (tables : List Table) (xs ys : List (List (List Value))) → AllZip SameRows xs ys → AllZip (TableConforms d) tables xs → AllZip (TableConforms e) tables ys
  tables_same [] [] [] same h = tt
  tables_same [] [] (y ∷ ys) same h = absurd same
  tables_same [] (x ∷ xs) ys same h = absurd h
  tables_same (t ∷ ts) [] ys same h = absurd h
  tables_same (t ∷ ts) (x ∷ xs) [] same h = absurd same
  tables_same (t ∷ ts) (x ∷ xs) (y ∷ ys) same h = (table_same t x y same.0 h.0, tables_same ts xs ys same.1 h.1)

pub fit_as : {E : Type 0} (tables : List Table) (d e : RowSet) (tested : Result Bool E) → IsInOrder d e → IfOk tested (λ found. IsTrue found ↔ FitTables tables e) →
    IfOk tested (λ found. IsTrue found ↔ FitTables tables d)
fit_as tables d e (Err x) order test = test
fit_as tables d e (Ok found) order test =
    let back = turned_lists d.tables e.tables order.same in (
      λ t. tables_same e d back tables e.tables d.tables back (test.0 t),
      λ h. test.1 (tables_same d e order.same tables d.tables e.tables order.same h),
    )

-- ---- loops over rows and tables

abbrev pub RiseTo : List (List Value) → ℕ → Type 0
RiseTo rows i = (k : ℕ) (d : List Value) → k + 1 < i → row_cmp (get_or rows k d) (get_or rows (k + 1) d) ≡ Less

pub rise_more : (rows : List (List Value)) (i : ℕ) → RiseTo rows i → ((d : List Value) → row_cmp (get_or rows (i - 1) d) (get_or rows i d) ≡ Less) → RiseTo rows (i + 1)
rise_more rows i before less k d within =
    ⊎_elim
    (λ (old : k + 1 < i). before k d old)
    (λ (past : i ≤ k + 1).
    let here : k + 1 ≡ i = omega (arith, within, past) in
    let low : i - 1 ≡ k = omega (arith, here) in
    subst (λ n. row_cmp (get_or rows k d) (get_or rows n d) ≡ Less) (sym here) (subst (λ n. row_cmp (get_or rows n d) (get_or rows i d) ≡ Less) low (less d)))
    (cases_lt (k + 1) i)

pub all_rise : (rows : List (List Value)) (i : ℕ) → length rows ≤ i → RiseTo rows i → IsStrictlySortedBy row_cmp rows
all_rise rows i past h = sorted_from_all_adjacent row_total rows [] (λ k within. h k [] (omega (arith, within, past)))

pub order_more : (lists news : List (List (List Value))) (i : ℕ) (list new : List (List Value)) → i < length lists → list ≡ slice_index_or lists i list → IsRisingListOf list new →
    All (IsStrictlySortedBy row_cmp) news → AllZip SameRows (take i lists) news →
    All (IsStrictlySortedBy row_cmp) (news ++ new ∷ []) × AllZip SameRows (take (i + 1) lists) (news ++ new ∷ [])
order_more lists news i list new less is made rising same =
    let one : SameRows list new = record { kept = made.kept; only = made.only } in
    let here : SameRows (slice_index_or lists i list) new = subst (λ z. SameRows z new) is one in (
      All-push (IsStrictlySortedBy row_cmp) news new rising made.rising,
      subst (λ z. AllZip SameRows z (news ++ new ∷ [])) (sym (take_more lists i list less)) (AllZip-push SameRows (take i lists) news (slice_index_or lists i list) new same here),
    )

pub order_whole : (d : RowSet) (lists news all : List (List (List Value))) (i : ℕ) → length lists ≤ i → lists ≡ d.tables → all ≡ news → All (IsStrictlySortedBy row_cmp) news →
    AllZip SameRows (take i lists) news → IsInOrder d (record { tables = all })
order_whole d lists news all i past seen is rising same = record {
  rising = subst (All (IsStrictlySortedBy row_cmp)) (sym is) rising;
  same = subst (λ z. AllZip SameRows d.tables z) (sym is) (subst (λ z. AllZip SameRows z news) seen (subst (λ z. AllZip SameRows z news) (take_all i lists past) same));
}

pub rising_more : (lists : List (List (List Value))) (i : ℕ) (list seen : List (List Value)) → i < length lists → list ≡ slice_index_or lists i list → seen ≡ list →
    IsStrictlySortedBy row_cmp seen → All (IsStrictlySortedBy row_cmp) (take i lists) → All (IsStrictlySortedBy row_cmp) (take (i + 1) lists)
rising_more lists i list seen less is same rising before =
    All-more (IsStrictlySortedBy row_cmp) lists i list less before (subst (IsStrictlySortedBy row_cmp) is (subst (IsStrictlySortedBy row_cmp) same rising))
