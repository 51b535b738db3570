-- Rows that are made cell by cell, and rows that are cut.
use Rattle.std.proofs.Common.{◌≡◌, ◌≢◌, ℕ, ◌+◌, ◌<◌, ◌≤◌, List, [], ◌∷◌, ◌++◌, length, get_or, take, min, nat_eq, sym, ap, ◌∙◌, ⊎_elim, arith, below_more}
use Rattle.std.proofs.lemmas.Bool.{cases_lt, ne_eqb}
use Rattle.std.proofs.lemmas.List.{get_or_append_left, get_or_push, get_or_past, get_or-take, length-take}
use Rattle.ba_classes.specs.Best.{better, joined, or_nothing}
use Rattle.ba_classes.specs.declared.best.Best.{Best}
use Rattle.ba_classes.specs.declared.best.Best.TheVariants.{Absent}
use Rattle.ba_classes.proofs.BestLemmas.{joined-Absent}

-- the cells that were made are those of a function, and one more is
pub made_more : (cell : ℕ → Best) (cells : List Best) (i : ℕ) (v : Best) → length cells ≡ i → ((j : ℕ) → j < i → get_or cells j Absent ≡ cell j) → v ≡ cell i → (j : ℕ) → j < i + 1 → get_or (cells ++ v ∷ []) j Absent ≡ cell j
made_more cell cells i v len below is =
    below_more (λ j. get_or (cells ++ v ∷ []) j Absent ≡ cell j) i
    (λ j h. get_or_append_left cells _ Absent j (omega (arith, len)) ∙ below j h)
    (get_or_push cells v Absent i len ∙ is)

-- the cells that were made are all, where the function gives none past them
pub made_all : (cell : ℕ → Best) (cells : List Best) (i : ℕ) → length cells ≡ i → ((j : ℕ) → j < i → get_or cells j Absent ≡ cell j) → ((j : ℕ) → i ≤ j → cell j ≡ Absent) → (j : ℕ) → get_or cells j Absent ≡ cell j
made_all cell cells i len below past j =
    ⊎_elim (below j) (λ (h : i ≤ j). get_or_past cells j Absent (omega (arith, len)) ∙ sym (past j h)) (cases_lt j i)

module _ (row : List Best) (place side : ℕ) where
  abbrev pub onward_cell : ℕ → Best
  onward_cell j = or_nothing (nat_eq place j) (get_or row j Absent)

  pub onward_below : (cells : List Best) (i : ℕ) → length cells ≡ i → place < i → min (length row) side ≤ i → ((j : ℕ) → j < i → get_or cells j Absent ≡ onward_cell j) → (j : ℕ) → j < side → get_or cells j Absent ≡ onward_cell j
  onward_below cells i len within whole below j h =
      ⊎_elim (below j)
      (λ (past : i ≤ j).
      let apart : place ≢ j = omega arith in
      get_or_past cells j Absent (omega (arith, len))
      ∙ sym (ap (λ b. or_nothing b (get_or row j Absent)) (ne_eqb place j apart) ∙ get_or_past row j Absent (omega arith)))
      (cases_lt j i)

module _ (row : List Best) (left : Best) (onward : List Best) where
  abbrev pub raised : ℕ → Best
  raised j = better (get_or row j Absent) (joined left (get_or onward j Absent))

  pub raised_past : (j : ℕ) → length row ≤ j → length onward ≤ j → raised j ≡ Absent
  raised_past j h m =
      ap (λ b. better b (joined left (get_or onward j Absent))) (get_or_past row j Absent h)
      ∙ ap (joined left) (get_or_past onward j Absent m) ∙ joined-Absent left

  pub raised_here : (j : ℕ) (here there on v : Best) → here ≡ get_or row j Absent → there ≡ get_or onward j Absent → on ≡ joined left there → v ≡ better here on → v ≡ raised j
  raised_here j here there on v a b e f = f ∙ ap (better here) (e ∙ ap (joined left) b) ∙ ap (λ h. better h (joined left (get_or onward j Absent))) a

  pub covered_here : (j : ℕ) (here there on : Best) → here ≡ get_or row j Absent → there ≡ get_or onward j Absent → on ≡ joined left there → better here on ≡ here → raised j ≡ get_or row j Absent
  covered_here j here there on a b e covered = sym (raised_here j here there on here a b e (sym covered)) ∙ a

module _ (row old : List Best) (side : ℕ) (cut : row ≡ take side old) where
  pub cut_same : (j : ℕ) → j < side → get_or row j Absent ≡ get_or old j Absent
  cut_same j h = ap (λ (r : List Best). get_or r j Absent) cut ∙ get_or-take side old j Absent h

  pub cut_past : (j : ℕ) → side ≤ j → get_or row j Absent ≡ Absent
  cut_past j h = get_or_past row j Absent (omega (arith, ap (λ (r : List Best). length r) cut, length-take side old))

  pub cut_none_new : (j : ℕ) → get_or old j Absent ≡ Absent → get_or row j Absent ≡ Absent
  cut_none_new j absent = ⊎_elim (λ (h : j < side). cut_same j h ∙ absent) (cut_past j) (cases_lt j side)
