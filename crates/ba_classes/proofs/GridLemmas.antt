-- Rows that are cut, added and raised, one after another.
use Rattle.std.proofs.Common.{◌≡◌, ◌≢◌, ℕ, ◌+◌, ◌<◌, ◌≤◌, List, [], ◌∷◌, ◌++◌, length, get_or, set, refl, sym, ap, ◌∙◌, subst, ⊎_elim, arith, nat_eq, false}
use Rattle.std.proofs.lemmas.Bool.{cases_lt, cases_eq, eq-eqb, ne_eqb}
use Rattle.std.proofs.lemmas.List.{get_or-set_same, get_or-set_other, get_or_past, get_or_append_left, get_or_push, length_push}
use Rattle.ba_classes.specs.Best.{better, joined, or_nothing}
use Rattle.std.specs.Prelude.{Option, Some, None, Result, Ok, Err, OnOk, OnErr, cond}
use Rattle.ba_classes.specs.Grid.{IsGrid, IsLast, NoneNew, NonePast, Places, SameBelow, SameCells, between, cell_at, cell_between, place_of}
use Rattle.ba_classes.specs.declared.best.Best.{Best}
use Rattle.ba_classes.specs.declared.best.Best.TheVariants.{Absent}

some_one : (m n : ℕ) → Some m ≡ Some n → m ≡ n
some_one m n e = cc

some_none : (m : ℕ) → Some m ≡ None → ⊥
some_none m e = cc

module _ (rows : List (List Best)) (i : ℕ) (row : List Best) (within : i < length rows) where
  -- a row that is written at a place, read at any
  at_written : (P : ℕ → List Best → Type 0) → P i row → ((k : ℕ) → k ≢ i → P k (get_or rows k [])) → (k : ℕ) → P k (get_or (set rows i row) k [])
  at_written P here elsewhere k =
      ⊎_elim
      (λ (e : k ≡ i). subst (λ n. P n (get_or (set rows i row) n [])) (sym e) (subst (P i) (sym (get_or-set_same rows i row [] within)) here))
      (λ (apart : k ≡ i → ⊥). subst (P k) (sym (get_or-set_other rows i k row [] apart)) (elsewhere k apart))
      (cases_eq k i)

  -- where the row that is written is the old one, or that cut to a side
  module _ (start : List (List Best)) (side : ℕ) where
    pub written_same : SameBelow side start rows → ((j : ℕ) → j < side → get_or row j Absent ≡ cell_at rows i j) → SameBelow side start (set rows i row)
    written_same same row_same = at_written (λ k r. (j : ℕ) → j < side → get_or r j Absent ≡ cell_at start k j) (λ j h. row_same j h ∙ same i j h) (λ k apart j h. same k j h)

    pub written_none_new : NoneNew start rows → ((j : ℕ) → cell_at rows i j ≡ Absent → get_or row j Absent ≡ Absent) → NoneNew start (set rows i row)
    written_none_new none_new row_none = at_written (λ k r. (j : ℕ) → cell_at start k j ≡ Absent → get_or r j Absent ≡ Absent) (λ j h. row_none j (none_new i j h)) (λ k apart j h. none_new k j h)

    pub written_none_past : ((k j : ℕ) → k < i → side ≤ j → cell_at rows k j ≡ Absent) → ((j : ℕ) → side ≤ j → get_or row j Absent ≡ Absent) → (k j : ℕ) → k < i + 1 → side ≤ j → cell_at (set rows i row) k j ≡ Absent
    written_none_past none_past row_past k j h m =
        at_written (λ n r. n < i + 1 → get_or r j Absent ≡ Absent) (λ _. row_past j m) (λ n apart b. none_past n j (omega arith) m) k h

-- a row that is added last, read at any place
at_added : (rows : List (List Best)) (row : List Best) (P : ℕ → List Best → Type 0) → ((k : ℕ) → k < length rows → P k (get_or rows k [])) → P (length rows) row → ((k : ℕ) → length rows < k → P k []) → (k : ℕ) → P k (get_or (rows ++ row ∷ []) k [])
at_added rows row P old new past k =
    ⊎_elim
    (λ (h : k < length rows). subst (P k) (sym (get_or_append_left rows _ [] k h)) (old k h))
    (λ (h : length rows ≤ k).
    ⊎_elim
    (λ (e : k ≡ length rows). subst (λ n. P n (get_or (rows ++ row ∷ []) n [])) (sym e) (subst (P (length rows)) (sym (get_or_push rows row [] (length rows) refl)) new))
    (λ (apart : k ≡ length rows → ⊥). subst (P k) (sym (get_or_past (rows ++ row ∷ []) k [] (omega (arith, length_push rows row)))) (past k (omega arith)))
    (cases_eq k (length rows)))
    (cases_lt k (length rows))

pub added_cells : (start rows : List (List Best)) (row : List Best) → SameCells start rows → ((j : ℕ) → get_or row j Absent ≡ Absent) → SameCells start (rows ++ row ∷ [])
added_cells start rows row same empty =
    at_added rows row (λ k r. (j : ℕ) → get_or r j Absent ≡ cell_at start k j) (λ k h j. same k j)
    (λ j. empty j ∙ sym (absent_past (length rows) (omega arith) j) ∙ same (length rows) j)
    (λ k h j. sym (absent_past k (omega arith) j) ∙ same k j)
  where
    absent_past : (k : ℕ) → length rows ≤ k → (j : ℕ) → cell_at rows k j ≡ Absent
    absent_past k h j = ap (λ (r : List Best). get_or r j Absent) (get_or_past rows k [] h)

-- ---- a node that gets a place, where the rows have an empty row and an empty column

module _ (places after : Places) (rows cut added : List (List Best)) (node place : ℕ) (grid : IsGrid places rows) (place-is : place ≡ places.count) (same : SameBelow place rows cut) (none_new : NoneNew rows cut) (none_past : NonePast place cut) (same_cells : SameCells cut added) (unnamed : place_of places node ≡ None) (updated : (x : ℕ) → place_of after x ≡ cond (nat_eq node x) (Some place) (place_of places x)) where
  named : place_of after node ≡ Some place
  named = updated node ∙ ap (λ b. cond b (Some place) (place_of places node)) (eq-eqb node node refl)

  elsewhere : (x : ℕ) → x ≢ node → place_of after x ≡ place_of places x
  elsewhere x apart = updated x ∙ ap (λ b. cond b (Some place) (place_of places x)) (ne_eqb node x (λ e. apart (sym e)))

  no_row_here : (p : Option ℕ) → cell_between added (Some place) p ≡ Absent
  no_row_here (Some j) = same_cells place j ∙ none_new place j (grid.no_row place j (omega (arith, place-is)))
  no_row_here None = refl

  no_column_here : (p : Option ℕ) → cell_between added p (Some place) ≡ Absent
  no_column_here (Some i) = same_cells i place ∙ none_past i place (omega arith)
  no_column_here None = refl

  none_to : (p : Option ℕ) → cell_between rows p None ≡ Absent
  none_to (Some i) = refl
  none_to None = refl

  old_cells : (y : ℕ) (p q : Option ℕ) → place_of places y ≡ q → cell_between added p q ≡ cell_between rows p q
  old_cells y (Some i) (Some j) e = same_cells i j ∙ same i j (omega (arith, place-is, grid.below y j e))
  old_cells y (Some i) None e = refl
  old_cells y None q e = refl

  pub placed_same : (x y : ℕ) → between after added x y ≡ between places rows x y
  placed_same x y =
      ⊎_elim
      (λ (e : x ≡ node).
      ap (λ n. between after added n y) e ∙ ap (λ p. cell_between added p (place_of after y)) named ∙ no_row_here (place_of after y)
      ∙ sym (ap (λ n. between places rows n y) e ∙ ap (λ p. cell_between rows p (place_of places y)) unnamed))
      (λ (a : x ≡ node → ⊥).
      ⊎_elim
      (λ (e : y ≡ node).
      ap (λ n. between after added x n) e ∙ ap (λ p. cell_between added (place_of after x) p) named ∙ no_column_here (place_of after x)
      ∙ sym (ap (λ n. between places rows x n) e ∙ ap (λ p. cell_between rows (place_of places x) p) unnamed ∙ none_to (place_of places x)))
      (λ (b : y ≡ node → ⊥).
      ap (λ p. cell_between added p (place_of after y)) (elsewhere x a) ∙ ap (λ p. cell_between added (place_of places x) p) (elsewhere y b)
      ∙ old_cells y (place_of places x) (place_of places y) refl)
      (cases_eq y node))
      (cases_eq x node)

-- whatever comes of it, the grid stays one: the places are as they were, or the node has the next one
module _ (places after : Places) (rows cut added : List (List Best)) (node place : ℕ) (grid : IsGrid places rows) (place-is : place ≡ places.count) (same : SameBelow place rows cut) (none_new : NoneNew rows cut) (same_cells : SameCells cut added) (tall : place < length added) where
  no_row_past : (i j : ℕ) → place ≤ i → cell_at added i j ≡ Absent
  no_row_past i j h = same_cells i j ∙ none_new i j (grid.no_row i j (omega (arith, place-is)))

  kept_cells : (y : ℕ) (p q : Option ℕ) → place_of places y ≡ q → cell_between added p q ≡ cell_between rows p q
  kept_cells y (Some i) (Some j) e = same_cells i j ∙ same i j (omega (arith, place-is, grid.below y j e))
  kept_cells y (Some i) None e = refl
  kept_cells y None q e = refl

  pub kept_between : after ≡ places → (x y : ℕ) → between after added x y ≡ between places rows x y
  kept_between e x y =
      subst (λ (it : Places). between it added x y ≡ between places rows x y) (sym e)
      (kept_cells y (place_of places x) (place_of places y) refl)

  IsGrid-kept : IsGrid places added
  IsGrid-kept = record {
    below = grid.below;
    apart = grid.apart;
    tall = omega (arith, place-is);
    no_row = λ i j h. no_row_past i j (omega (arith, place-is));
  }

  module _ (count : after.count ≡ places.count + 1) (updated : (x : ℕ) → place_of after x ≡ cond (nat_eq node x) (Some place) (place_of places x)) where
    place_here : (x p : ℕ) → x ≡ node → place_of after x ≡ Some p → p ≡ place
    place_here x p e h = some_one p place (sym h ∙ updated x ∙ ap (λ b. cond b (Some place) (place_of places x)) (eq-eqb node x (sym e)))

    place_there : (x p : ℕ) → x ≢ node → place_of after x ≡ Some p → place_of places x ≡ Some p
    place_there x p apart h = sym (updated x ∙ ap (λ b. cond b (Some place) (place_of places x)) (ne_eqb node x (λ e. apart (sym e)))) ∙ h

    IsGrid-added : IsGrid after added
    IsGrid-added = record {
      below = λ x p h.
          ⊎_elim
          (λ (e : x ≡ node). let is : p ≡ place = place_here x p e h in omega (arith, is, place-is, count))
          (λ (a : x ≡ node → ⊥). let old : p < places.count = grid.below x p (place_there x p a h) in omega (arith, old, count))
          (cases_eq x node);
      apart = λ x y p h k.
          ⊎_elim
          (λ (e : x ≡ node).
          ⊎_elim
          (λ (f : y ≡ node). e ∙ sym f)
          (λ (b : y ≡ node → ⊥).
          let is : p ≡ place = place_here x p e h in
          let old : p < places.count = grid.below y p (place_there y p b k) in
          absurd (let no : ⊥ = omega (arith, is, old, place-is) in no))
          (cases_eq y node))
          (λ (a : x ≡ node → ⊥).
          ⊎_elim
          (λ (f : y ≡ node).
          let is : p ≡ place = place_here y p f k in
          let old : p < places.count = grid.below x p (place_there x p a h) in
          absurd (let no : ⊥ = omega (arith, is, old, place-is) in no))
          (λ (b : y ≡ node → ⊥). grid.apart x y p (place_there x p a h) (place_there y p b k))
          (cases_eq y node))
          (cases_eq x node);
      tall = omega (arith, place-is, count);
      no_row = λ i j h. no_row_past i j (omega (arith, place-is, count));
    }

  pub IsGrid-placed : {T E : Type 0} (r : Result T E) → OnOk r (after.count ≡ places.count + 1) → OnOk r ((x : ℕ) → place_of after x ≡ cond (nat_eq node x) (Some place) (place_of places x)) → OnErr r (after ≡ places) → IsGrid after added
  IsGrid-placed (Ok done) count updated err = IsGrid-added count updated
  IsGrid-placed (Err fault) count updated err = subst (λ (it : Places). IsGrid it added) (sym err) IsGrid-kept

-- ---- a node that gives the last place back

pub IsGrid-given_back : (places after : Places) (rows cut : List (List Best)) (node : ℕ) → IsGrid places rows → (last : IsLast places node) → after.count + 1 ≡ places.count → place_of after node ≡ None → ((x : ℕ) → x ≢ node → place_of after x ≡ place_of places x) → length cut ≡ after.count → IsGrid after cut
IsGrid-given_back places after rows cut node grid last count gone kept len = record {
  below = λ x p h.
      let old : place_of places x ≡ Some p = sym (kept x (other x p h)) ∙ h in
      let within : p < places.count = grid.below x p old in
      let apart : p ≢ last.place = λ e. other x p h (grid.apart x node p old (last.placed ∙ ap (λ n. Some n) (sym e))) in
      omega (arith, within, apart, count, last.last);
  apart = λ x y p h k. grid.apart x y p (sym (kept x (other x p h)) ∙ h) (sym (kept y (other y p k)) ∙ k);
  tall = omega (arith, len);
  no_row = λ i j h. ap (λ (r : List Best). get_or r j Absent) (get_or_past cut i [] (omega (arith, len)));
}
  where
    other : (x p : ℕ) → place_of after x ≡ Some p → x ≢ node
    other x p h e = some_none p (sym h ∙ ap (λ n. place_of after n) e ∙ gone)

module _ (start : List (List Best)) (low : ℕ) (by : Best) (onward : List Best) where
  -- what comes to the place `low` and goes on by `by`
  abbrev pub coming : ℕ → Best
  coming i = joined (or_nothing (nat_eq i low) (cell_at start i low)) by

  abbrev pub raised_cell : ℕ → ℕ → Best
  raised_cell i j = better (cell_at start i j) (joined (coming i) (get_or onward j Absent))

  pub raised_more : (rows : List (List Best)) (p : ℕ) (row old : List Best) (comes : Best) → length rows ≡ p → ((i j : ℕ) → i < p → cell_at rows i j ≡ raised_cell i j) → old ≡ get_or start p [] → comes ≡ coming p → ((j : ℕ) → get_or row j Absent ≡ better (get_or old j Absent) (joined comes (get_or onward j Absent))) → (i j : ℕ) → i < p + 1 → cell_at (rows ++ row ∷ []) i j ≡ raised_cell i j
  raised_more rows p row old comes len below old-is comes-is cells i j h =
      at_added rows row (λ k r. k < p + 1 → get_or r j Absent ≡ raised_cell k j)
      (λ k m _. below k j (omega (arith, len)))
      (λ _. subst (λ n. get_or row j Absent ≡ raised_cell n j) (sym len)
      (cells j ∙ ap (λ (r : List Best). better (get_or r j Absent) (joined comes (get_or onward j Absent))) old-is ∙ ap (λ b. better (cell_at start p j) (joined b (get_or onward j Absent))) comes-is))
      (λ k m n. absurd (omega (arith, len)))
      i h

  -- past the last row there is nothing to raise
  raised_past : (i j : ℕ) → low < length start → length start ≤ i → cell_at start i j ≡ Absent → cell_at start i low ≡ Absent → nat_eq i low ≡ false → raised_cell i j ≡ Absent
  raised_past i j within past e f apart = rw (e, f, apart) refl

  pub raised_all_cells : (rows : List (List Best)) (p : ℕ) → low < length start → length rows ≡ length start → length start ≤ p → ((i j : ℕ) → i < p → cell_at rows i j ≡ raised_cell i j) → (i j : ℕ) → cell_at rows i j ≡ raised_cell i j
  raised_all_cells rows p within same done below i j =
      ⊎_elim
      (λ (h : i < length start). below i j (omega arith))
      (λ (h : length start ≤ i).
      let absent : (rs : List (List Best)) → length rs ≤ i → (k : ℕ) → cell_at rs i k ≡ Absent = λ rs past k. ap (λ (r : List Best). get_or r k Absent) (get_or_past rs i [] past) in
      let apart : i ≡ low → ⊥ = λ e. absurd (omega (arith, e)) in
      absent rows (omega arith) j ∙ sym (raised_past i j within h (absent start h j) (absent start h low) (ne_eqb i low apart)))
      (cases_lt i (length start))

-- ---- where there are no rows

pub none_past_all : (rows : List (List Best)) (i side : ℕ) → length rows ≤ i → ((k j : ℕ) → k < i → side ≤ j → cell_at rows k j ≡ Absent) → NonePast side rows
none_past_all rows i side whole below k j h =
    ⊎_elim
    (λ (b : k < i). below k j b h)
    (λ (past : i ≤ k). ap (λ (r : List Best). get_or r j Absent) (get_or_past rows k [] (omega arith)))
    (cases_lt k i)

pub none_between : (rows : List (List Best)) (i j : Option ℕ) → length rows ≡ 0 → cell_between rows i j ≡ Absent
none_between [] (Some i) (Some j) none = refl
none_between [] (Some i) None none = refl
none_between [] None j none = refl
none_between (row ∷ rows) i j none = absurd (let no : ⊥ = omega (arith, none) in no)
