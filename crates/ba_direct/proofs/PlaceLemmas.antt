-- Rows chosen for the query's places, seen from the view's places, and back.
use Rattle.std.proofs.Common.{◌≡◌, ℕ, zero, suc, ◌+◌, ◌<◌, List, [], ◌∷◌, inl, inr, Bool, true, false, cond, count_by, eq-eqb, length, map, refl, sym, ap, ◌∙◌, subst, arith}
use borrow.Author.Tests.{eqb-true}
use Rattle.std.proofs.lemmas.Option.{slice_get_within, slice_get_past, slice_get_cases, slice_get-map}
use Rattle.std.proofs.lemmas.List.Sums.{sum_by-cons}
use Rattle.std.specs.List.{Contains}
use Rattle.std.specs.Prelude.{◌==◌, Some, None, slice_get, unwrap_or, option_map}
use Rattle.ba_model.proofs.FitLemmas.{AllZip-at}
use Rattle.ba_model.specs.Meaning.{IsChoice, rows_of}
use Rattle.ba_model.specs.declared.query.Part.{Part}
use Rattle.ba_model.specs.declared.value.RowSet.{RowSet}
use Rattle.ba_model.specs.declared.value.Value.{Value}
use Rattle.ba_direct.specs.Cover.{PairsTables}

-- the row at a place
abbrev pub row_at : List (List Value) → ℕ → List Value
row_at rows i = unwrap_or (slice_get rows i) []

-- the rows at the places that are listed
abbrev pub rows_at : List (List Value) → List ℕ → List (List Value)
rows_at rows to = map (row_at rows) to

-- rows at the paired places are a choice for the view's tables
pub choice_moved : (d : RowSet) (from : List ℕ) (rows : List (List Value)) → IsChoice d from rows → (to from' : List ℕ) → map (slice_get from) to ≡ map Some from' → IsChoice d from' (rows_at rows to)
choice_moved d from rows h [] [] e = tt
choice_moved d from rows h [] (t ∷ ts) e = cc
choice_moved d from rows h (i ∷ is) [] e = cc
choice_moved d from rows h (i ∷ is) (t ∷ ts) e =
    let first : slice_get from i ≡ Some t = cc in
    let later : map (slice_get from) is ≡ map Some ts = cc in
    let row = AllZip-at (λ t row. Contains (rows_of d t) row) from rows i t h first in
    let is_row : row.0 ≡ row_at rows i = sym (ap (λ o. unwrap_or o []) row.1) in
    (subst (λ r. Contains (rows_of d t) r) is_row row.2, choice_moved d from rows h is ts later)

pub choice_length : (d : RowSet) (from : List ℕ) (rows : List (List Value)) → IsChoice d from rows → length rows ≡ length from
choice_length d [] [] h = refl
choice_length d [] (r ∷ rows) h = absurd h
choice_length d (t ∷ from) [] h = absurd h
choice_length d (t ∷ from) (r ∷ rows) h = ap suc (choice_length d from rows h.1)

-- a row that is there
row_there : (rows : List (List Value)) (i : ℕ) → i < length rows → slice_get rows i ≡ Some (row_at rows i)
row_there rows i below =
    elim (slice_get_cases rows i).1 [
      | inl (x, w, is, e) ↦ rw is refl
      | inr (past, none) ↦ absurd (omega arith)
    ]

same_lists : {X : Type 0} (xs ys : List X) → ((i : ℕ) → slice_get xs i ≡ slice_get ys i) → xs ≡ ys
same_lists [] [] f = refl
same_lists [] (y ∷ ys) f = let e : None ≡ Some y = f 0 in cc
same_lists (x ∷ xs) [] f = let e : Some x ≡ None = f 0 in cc
same_lists (x ∷ xs) (y ∷ ys) f =
    let first : Some x ≡ Some y = f 0 in
    let later : xs ≡ ys = same_lists xs ys (λ i. f (suc i)) in
    cc

-- where the pairing has the tables right, each of its places is there
pub paired_within : (from to from' : List ℕ) → map (slice_get from) to ≡ map Some from' → (p j : ℕ) → slice_get to p ≡ Some j → (t : ℕ) × (slice_get from j ≡ Some t) × (slice_get from' p ≡ Some t)
paired_within from [] from' e p j h = cc
paired_within from (i ∷ is) [] e p j h = cc
paired_within from (i ∷ is) (t ∷ ts) e zero j h = (t, (let k : i ≡ j = cc in rw (sym k) cc), refl)
paired_within from (i ∷ is) (t ∷ ts) e (suc p) j h = paired_within from is ts (cc) p j h

pub as_many_tables : (from to from' : List ℕ) → map (slice_get from) to ≡ map Some from' → length from' ≡ length to
as_many_tables from [] [] e = refl
as_many_tables from [] (t ∷ ts) e = cc
as_many_tables from (i ∷ is) [] e = cc
as_many_tables from (i ∷ is) (t ∷ ts) e = ap suc (as_many_tables from is ts (cc))

-- how often a place is met, from the first place on
pub count_step : (j i : ℕ) (is : List ℕ) (b : Bool) → (i == j) ≡ b → count_by (λ i. i == j) (i ∷ is) ≡ cond b 1 0 + count_by (λ i. i == j) is
count_step j i is b e = sum_by-cons (λ i. cond (i == j) 1 0) i is ∙ ap (λ q. cond q 1 0 + count_by (λ i. i == j) is) e

count_none : (j : ℕ) (to : List ℕ) → count_by (λ i. i == j) to ≡ 0 → (k : ℕ) → slice_get to k ≡ Some j → ⊥
count_none j [] e k h = cc
count_none j (i ∷ is) e zero h =
    let same : i ≡ j = cc in
    let n = count_step j i is true (eq-eqb i j same) in
    omega (arith, n, e)
count_none j (i ∷ is) e (suc k) h = count_none j is (omega (arith, sum_by-cons (λ i. cond (i == j) 1 0) i is, e)) k h

-- the place j is met at i, and nowhere else
pub record IsOnly (to : List ℕ) (j i : ℕ) : Type 0 where
  pub there : slice_get to i ≡ Some j
  pub only : (k : ℕ) → slice_get to k ≡ Some j → k ≡ i

only_first : (j i : ℕ) (is : List ℕ) → count_by (λ i. i == j) is ≡ 0 → (k : ℕ) → slice_get (i ∷ is) k ≡ Some j → k ≡ 0
only_first j i is e zero h = refl
only_first j i is e (suc k) h = absurd (count_none j is e k h)

only_later : (j i : ℕ) (is : List ℕ) (p : ℕ) → (i == j) ≡ false → ((k : ℕ) → slice_get is k ≡ Some j → k ≡ p) → (k : ℕ) → slice_get (i ∷ is) k ≡ Some j → k ≡ suc p
only_later j i is p e f zero h = let yes : (i == j) ≡ true = eq-eqb i j (cc) in cc
only_later j i is p e f (suc k) h = ap suc (f k h)

once_at : (j i : ℕ) (is : List ℕ) (b : Bool) → (i == j) ≡ b → count_by (λ i. i == j) (i ∷ is) ≡ 1 → (count_by (λ i. i == j) is ≡ 1 → (p : ℕ) × IsOnly is j p) → (p : ℕ) × IsOnly (i ∷ is) j p
once_at j i is true e n rest =
    let none : count_by (λ i. i == j) is ≡ 0 = omega (arith, count_step j i is true e, n) in
    (0, record { there = ap Some (eqb-true i j e); only = only_first j i is none })
once_at j i is false e n rest =
    let one : count_by (λ i. i == j) is ≡ 1 = omega (arith, count_step j i is false e, n) in
    let k = rest one in
    (suc k.0, record { there = k.1.there; only = only_later j i is k.0 e k.1.only })

-- a place that is counted once is met at one place
pub once_from_count : (j : ℕ) (to : List ℕ) → count_by (λ i. i == j) to ≡ 1 → (i : ℕ) × IsOnly to j i
once_from_count j [] e = absurd (omega (arith, e))
once_from_count j (i ∷ is) e = once_at j i is (i == j) refl e (once_from_count j is)

-- the way back: for each place below n where it is met
pub record IsBack (to : List ℕ) (n : ℕ) (back : List ℕ) : Type 0 where
  pub as_many : length back ≡ n
  pub at : (j : ℕ) → j < n → (i : ℕ) × (slice_get back j ≡ Some i) × IsOnly to j i

by_place : (P : ℕ → ℕ → Type 0) (n i : ℕ) (is : List ℕ) → P 0 i → ((j : ℕ) → j < n → (k : ℕ) × (slice_get is j ≡ Some k) × P (suc j) k) → (j : ℕ) → j < suc n → (k : ℕ) × (slice_get (i ∷ is) j ≡ Some k) × P j k
by_place P n i is p f zero below = (i, refl, p)
by_place P n i is p f (suc j) below = f j (omega arith)

-- where each number below n has one with P, a list of them
chosen_list : (P : ℕ → ℕ → Type 0) (n : ℕ) → ((j : ℕ) → j < n → (i : ℕ) × P j i) → (back : List ℕ) × (length back ≡ n) × ((j : ℕ) → j < n → (i : ℕ) × (slice_get back j ≡ Some i) × P j i)
chosen_list P zero f = ([], refl, λ j below. absurd (omega arith))
chosen_list P (suc n) f =
    let first = f 0 (omega arith) in
    let rest = chosen_list (λ j i. P (suc j) i) n (λ j below. f (suc j) (omega arith)) in
    (first.0 ∷ rest.0, ap suc rest.1, by_place P n first.0 rest.0 first.1 rest.2)

-- a pairing has a way back
pub way_back : (view q : Part) (to : List ℕ) → PairsTables view q to → (back : List ℕ) × IsBack to (length q.from) back
way_back view q to pairs =
    let back = chosen_list (IsOnly to) (length q.from) (λ j below. once_from_count j to (pairs.once j below)) in
    (back.0, record { as_many = back.1; at = back.2 })

-- by the way back the view's tables are the query's
pub tables_back : (view q : Part) (to back : List ℕ) → PairsTables view q to → IsBack to (length q.from) back → map (slice_get view.from) back ≡ map Some q.from
tables_back view q to back pairs way =
    same_lists (map (slice_get view.from) back) (map Some q.from)
    (λ j.
    slice_get-map (slice_get view.from) back j
    ∙ elim (slice_get_cases q.from j).1 as (λ _. option_map (slice_get view.from) (slice_get back j) ≡ slice_get (map Some q.from) j) [
      | inl (t, below, is, g) ↦
          let k = way.at j below in
          let w = paired_within q.from to view.from pairs.tables k.0 j k.2.there in
          let same_table : t ≡ w.0 = (let both : Some t ≡ Some w.0 = sym is ∙ w.1 in cc) in
          ap (option_map (slice_get view.from)) k.1 ∙ (ap Some (w.2 ∙ ap Some (sym same_table)) ∙ sym (slice_get-map Some q.from j ∙ ap (option_map Some) is))
      | inr (past, none) ↦
          ap (option_map (slice_get view.from)) (slice_get_past back j (omega (arith, way.as_many))) ∙ sym (slice_get-map Some q.from j ∙ ap (option_map Some) none)
    ])

-- each of the view's rows is the query's row at the paired place
pub record Placed (to : List ℕ) (rows others : List (List Value)) : Type 0 where
  pub row : (p j : ℕ) → slice_get to p ≡ Some j → slice_get others p ≡ slice_get rows j

-- the rows at the paired places are so placed
pub Placed-there : (view q : Part) (to : List ℕ) (rows : List (List Value)) → PairsTables view q to → length rows ≡ length q.from → Placed to rows (rows_at rows to)
Placed-there view q to rows pairs long =
    record {
      row = λ p j h.
          let w = paired_within q.from to view.from pairs.tables p j h in
          let below : j < length rows = omega (arith, long, slice_get_within q.from j w.0 w.1) in
          slice_get-map (row_at rows) to p ∙ (ap (option_map (row_at rows)) h ∙ sym (row_there rows j below));
    }

-- so are rows of the view, and what they are by the way back
pub Placed-back : (view q : Part) (to back : List ℕ) (others : List (List Value)) → PairsTables view q to → IsBack to (length q.from) back → length others ≡ length view.from → Placed to (rows_at others back) others
Placed-back view q to back others pairs way long =
    record {
      row = λ p j h.
          let w = paired_within q.from to view.from pairs.tables p j h in
          let k = way.at j (slice_get_within q.from j w.0 w.1) in
          let same : p ≡ k.0 = k.2.only p h in
          let below : p < length others = omega (arith, long, slice_get_within view.from p w.0 w.2) in
          row_there others p below
          ∙ (ap (λ i. Some (row_at others i)) same ∙ sym (slice_get-map (row_at others) back j ∙ ap (option_map (row_at others)) k.1));
    }
