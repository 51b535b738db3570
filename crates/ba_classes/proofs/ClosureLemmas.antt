-- Cells by places and by nodes, and what a fact that is added leaves of them.
use Rattle.std.proofs.Common.{◌≡◌, ◌≢◌, ℕ, ◌^◌, ◌<◌, ◌≤◌, ℤ, pos, neg_ℤ, ◌+ℤ◌, ◌≤ℤ◌, ◌↔◌, List, [], ◌∷◌, ◌++◌, Bool, true, false, ◌||◌, IsTrue, Option, Some, None, nat_eq, get_or, refl, sym, ap, ◌∙◌, subst, ◌⊎◌, inl, ⊎_elim, ◌<ℤ◌, arith}
use Rattle.std.proofs.lemmas.Bool.{cases_lt, cases_eq, ne_eqb, eq-eqb, eqb-true, false≢true}
use Rattle.std.proofs.lemmas.Int.{ints}
use Rattle.std.proofs.lemmas.List.Elements.{All-push, All-nil, Contains-push_cases}
use Rattle.ba_classes.specs.Best.{Reaches, IsWithin, better, joined, or_nothing}
use Rattle.ba_classes.specs.Chains.{Chain, none, first, Shows}
use Rattle.ba_classes.specs.Closure.{reach, through, IsExact, IsInRange, IsClosure}
use Rattle.ba_classes.specs.Grid.{Places, IsGrid, place_of, between, cell_at, cell_between}
use Rattle.ba_classes.specs.declared.best.Best.{Best}
use Rattle.ba_classes.specs.declared.best.Best.TheVariants.{Absent}
use Rattle.ba_classes.specs.declared.order.Difference.{Difference}
use Rattle.ba_classes.proofs.BestLemmas.{joined-Absent}
use Rattle.ba_classes.proofs.BoundLemmas.{reach_within}
use Rattle.ba_classes.proofs.ChainLemmas.{weaken, Chain-more, Shows-none, Shows-then, Shows-more, Shows-fact}
use Rattle.ba_classes.proofs.StepLemmas.{IsExact-raised, IsAbsurd-after}

module _ (places : Places) (rows : List (List Best)) (grid : IsGrid places rows) where
  -- the cell at the places of two nodes is the cell between them
  cell_placed : (x y i j : ℕ) → place_of places x ≡ Some i → place_of places y ≡ Some j → between places rows x y ≡ cell_at rows i j
  cell_placed x y i j row column = rw (row, column) refl

  -- two nodes are one exactly where their places are
  same_placed : (x y i j : ℕ) → place_of places x ≡ Some i → place_of places y ≡ Some j → nat_eq i j ≡ nat_eq x y
  same_placed x y i j row column =
      ⊎_elim
      (λ (e : x ≡ y). let same : i ≡ j = cc in eq-eqb i j same ∙ sym (eq-eqb x y e))
      (λ (apart : x ≡ y → ⊥). ne_eqb i j (λ e. apart (grid.apart x y i row (subst (λ p. place_of places y ≡ Some p) (sym e) column))) ∙ sym (ne_eqb x y apart))
      (cases_eq x y)

  pub reach_placed : (x y i j : ℕ) → place_of places x ≡ Some i → place_of places y ≡ Some j → or_nothing (nat_eq i j) (cell_at rows i j) ≡ reach (between places rows) x y
  reach_placed x y i j row column =
      ap (λ b. or_nothing b (cell_at rows i j)) (same_placed x y i j row column) ∙ ap (or_nothing (nat_eq x y)) (sym (cell_placed x y i j row column))

  -- no chain of one fact or more comes to a named node from one that isn't, nor goes the other way
  reach_unplaced : (x y j : ℕ) → place_of places x ≡ None → place_of places y ≡ Some j → reach (between places rows) x y ≡ Absent
  reach_unplaced x y j row column =
      let apart : x ≡ y → ⊥ = λ e. cc in
      let absent : between places rows x y ≡ Absent = rw row refl in
      ap (λ b. or_nothing b (between places rows x y)) (ne_eqb x y apart) ∙ absent

  reach_from_placed : (x y i : ℕ) → place_of places x ≡ Some i → place_of places y ≡ None → reach (between places rows) x y ≡ Absent
  reach_from_placed x y i row column =
      let apart : x ≡ y → ⊥ = λ e. cc in
      let absent : between places rows x y ≡ Absent = rw (row, column) refl in
      ap (λ b. or_nothing b (between places rows x y)) (ne_eqb x y apart) ∙ absent

-- the same cells are as exact
pub IsExact-same : (facts : List Difference) (cell new : ℕ → ℕ → Best) → ((x y : ℕ) → new x y ≡ cell x y) → IsExact facts cell → IsExact facts new
IsExact-same facts cell new same exact = record {
  sound = λ x y k h. exact.sound x y k (subst (λ b. Reaches (or_nothing (nat_eq x y) b) k) (same x y) h);
  complete = λ x y k s. subst (λ b. Reaches (or_nothing (nat_eq x y) b) k) (sym (same x y)) (exact.complete x y k s);
}

-- naming a node changes nothing of what follows
pub IsClosure-placed : (facts : List Difference) (places after : Places) (rows wider : List (List Best)) (is_absurd : Bool) (node : ℕ) → node < 2 ^ 32 → ((x p : ℕ) → place_of places x ≡ Some p → place_of after x ≡ Some p) → ((p : ℕ) → p < after.count → (p < places.count) ⊎ (place_of after node ≡ Some p)) → ((x y : ℕ) → between after wider x y ≡ between places rows x y) → IsClosure facts places rows is_absurd → IsClosure facts after wider is_absurd
IsClosure-placed facts places after rows wider is_absurd node small kept named same closure = record {
  in_range = closure.in_range;
  named = λ p h.
      ⊎_elim
      (λ (old : p < places.count). let had = closure.named p old in record { node = had.node; small = had.small; placed = kept had.node p had.placed })
      (λ (new : place_of after node ≡ Some p). record { node = node; small = small; placed = new })
      (named p h);
  exact = IsExact-same facts (between places rows) (between after wider) same closure.exact;
  flag = closure.flag;
}

pub IsClosure-none : (places : Places) (rows : List (List Best)) → places.count ≡ 0 → ((x y : ℕ) → between places rows x y ≡ Absent) → IsClosure [] places rows false
IsClosure-none places rows unnamed absent = record {
  in_range = All-nil (IsInRange (2 ^ 66));
  named = λ p h. absurd (omega arith);
  exact = IsExact-same [] (λ _ _. Absent) (between places rows) absent IsExact-none;
  flag = (λ e. absurd (false≢true e), λ a. absurd (no_gain a.chain a.above));
}
  where
    no_sum : {x y : ℕ} {k : ℤ} → Chain [] x k y → (x ≡ y) × (k ≡ pos 0)
    no_sum none = (refl, refl)
    no_sum (first f h c) = absurd (omega (arith, h.1))

    no_gain : {x y : ℕ} {k : ℤ} → Chain [] x k y → pos 0 <ℤ k → ⊥
    no_gain c up = omega (arith, ints, (no_sum c).1)

    sound_none : (x y : ℕ) (k : ℤ) (one : Bool) → nat_eq x y ≡ one → Reaches (or_nothing one Absent) k → Shows [] x k y
    sound_none x y k true e h = subst (λ n. Shows [] x k n) (eqb-true x y e) (weaken k h (Shows-none x))
    sound_none x y k false e h = absurd h

    complete_none : (x y : ℕ) (k : ℤ) → Shows [] x k y → Reaches (reach (λ _ _. Absent) x y) k
    complete_none x y k s =
        let e = no_sum s.chain in
        let below : k ≤ℤ pos 0 = omega (arith, ints, s.enough, e.1) in
        subst (λ b. Reaches (or_nothing b Absent) k) (sym (eq-eqb x y e.0)) below

    IsExact-none : IsExact [] (λ _ _. Absent)
    IsExact-none = record { sound = λ x y k h. sound_none x y k (nat_eq x y) refl h; complete = complete_none }

same_raised : (a b c d e f t : Best) → a ≡ b → c ≡ d → e ≡ f → better a (joined (joined c t) e) ≡ better b (joined (joined d t) f)
same_raised a b c d e f t p q r = cc

nothing_comes : (a c e t : Best) → a ≡ Absent → c ≡ Absent → better a (joined (joined c t) e) ≡ Absent
nothing_comes a c e t p q = same_raised a Absent c Absent e e t p q refl

nothing_goes : (a c e t : Best) → a ≡ Absent → e ≡ Absent → better a (joined (joined c t) e) ≡ Absent
nothing_goes a c e t p q = same_raised a Absent c c e Absent t p refl q ∙ joined-Absent (joined c t)

module _ (facts : List Difference) (places : Places) (rows : List (List Best)) (is_absurd : Bool) (grid : IsGrid places rows) (closure : IsClosure facts places rows is_absurd) (fact : Difference) (range : IsInRange (2 ^ 66) fact) (from to : ℕ) (low_placed : place_of places fact.low ≡ Some from) (high_placed : place_of places fact.high ≡ Some to) where
  -- a cell outside the square has no chains, and its places are two
  outside : (i j : ℕ) → i ≢ j → cell_at rows i j ≡ Absent → or_nothing (nat_eq i j) (cell_at rows i j) ≡ Absent
  outside i j apart absent = ap (λ b. or_nothing b (cell_at rows i j)) (ne_eqb i j apart) ∙ absent

  pub comes_within : (i : ℕ) → IsWithin (2 ^ 98) (or_nothing (nat_eq i from) (cell_at rows i from))
  comes_within i =
      ⊎_elim
      (λ (h : i < places.count).
      let has = closure.named i h in
      subst (IsWithin (2 ^ 98)) (sym (reach_placed places rows grid has.node fact.low i from has.placed low_placed))
      (reach_within facts closure.in_range (between places rows) closure.exact has.node fact.low range.low))
      (λ (h : places.count ≤ i).
      let apart : i ≢ from = λ e. absurd (omega (arith, e, grid.below fact.low from low_placed)) in
      subst (IsWithin (2 ^ 98)) (sym (outside i from apart (grid.no_row i from h))) tt)
      (cases_lt i (places.count))

  pub goes_within : (onward : List Best) → ((j : ℕ) → j < places.count → get_or onward j Absent ≡ or_nothing (nat_eq to j) (cell_at rows to j)) → ((j : ℕ) → places.count ≤ j → get_or onward j Absent ≡ Absent) → (j : ℕ) → IsWithin (2 ^ 98) (get_or onward j Absent)
  goes_within onward onward_is past j =
      ⊎_elim
      (λ (h : j < places.count).
      let has = closure.named j h in
      subst (IsWithin (2 ^ 98)) (sym (onward_is j h ∙ reach_placed places rows grid fact.high has.node to j high_placed has.placed))
      (reach_within facts closure.in_range (between places rows) closure.exact fact.high has.node has.small))
      (λ (h : places.count ≤ j). subst (IsWithin (2 ^ 98)) (sym (past j h)) tt)
      (cases_lt j (places.count))

  module _ (gains : Bool) (gains_is : IsTrue gains ↔ Reaches (reach (between places rows) fact.high fact.low) (pos 1 +ℤ neg_ℤ fact.gap)) (onward : List Best) (onward_is : (j : ℕ) → j < places.count → get_or onward j Absent ≡ or_nothing (nat_eq to j) (cell_at rows to j)) (after : Places) (raised : List (List Best)) (same_places : (x : ℕ) → place_of after x ≡ place_of places x) (cells : (i j : ℕ) → cell_at raised i j ≡ better (cell_at rows i j) (joined (joined (or_nothing (nat_eq i from) (cell_at rows i from)) (through gains fact.gap)) (get_or onward j Absent))) where
    abbrev by_fact : ℕ → ℕ → Best
    by_fact x y = joined (joined (reach (between places rows) x fact.low) (through gains fact.gap)) (reach (between places rows) fact.high y)

    raised_placed : (x y i j : ℕ) → place_of places x ≡ Some i → place_of places y ≡ Some j → cell_at raised i j ≡ better (between places rows x y) (by_fact x y)
    raised_placed x y i j row column =
        cells i j
        ∙ same_raised (cell_at rows i j) (between places rows x y) (or_nothing (nat_eq i from) (cell_at rows i from)) (reach (between places rows) x fact.low) (get_or onward j Absent) (reach (between places rows) fact.high y) (through gains fact.gap)
        (sym (cell_placed places rows grid x y i j row column))
        (reach_placed places rows grid x fact.low i from row low_placed)
        (onward_is j (grid.below y j column) ∙ reach_placed places rows grid fact.high y to j high_placed column)

    raised_between : (x y : ℕ) (row column : Option ℕ) → place_of places x ≡ row → place_of places y ≡ column → cell_between raised row column ≡ better (cell_between rows row column) (by_fact x y)
    raised_between x y (Some i) (Some j) row column =
        raised_placed x y i j row column ∙ ap (λ b. better b (by_fact x y)) (cell_placed places rows grid x y i j row column)
    raised_between x y (Some i) None row column =
        sym (nothing_goes Absent (reach (between places rows) x fact.low) (reach (between places rows) fact.high y) (through gains fact.gap) refl (reach_from_placed places rows grid fact.high y to high_placed column))
    raised_between x y None column row same =
        sym (nothing_comes Absent (reach (between places rows) x fact.low) (reach (between places rows) fact.high y) (through gains fact.gap) refl (reach_unplaced places rows grid x fact.low from row low_placed))

    all_raised : (x y : ℕ) → between after raised x y ≡ better (between places rows x y) (by_fact x y)
    all_raised x y =
        ap (λ p. cell_between raised p (place_of after y)) (same_places x)
        ∙ ap (λ p. cell_between raised (place_of places x) p) (same_places y)
        ∙ raised_between x y (place_of places x) (place_of places y) refl refl

    pub IsClosure-raised : after.count ≡ places.count → IsClosure (facts ++ fact ∷ []) after raised (is_absurd || gains)
    IsClosure-raised len = record {
      in_range = All-push (IsInRange (2 ^ 66)) facts fact closure.in_range range;
      named = λ p h.
          let had = closure.named p (omega (arith, len)) in
          record { node = had.node; small = had.small; placed = same_places had.node ∙ had.placed };
      exact = IsExact-raised facts (between places rows) closure.exact fact gains gains_is (between after raised) all_raised;
      flag = IsAbsurd-after facts (between places rows) closure.exact fact gains gains_is is_absurd closure.flag;
    }

-- the same, over what the code read: whether it saw a gain, and the chains through the fact
pub IsClosure-step : (facts : List Difference) (places : Places) (rows : List (List Best)) (is_absurd : Bool) (grid : IsGrid places rows) (closure : IsClosure facts places rows is_absurd) (fact : Difference) (range : IsInRange (2 ^ 66) fact) (from to : ℕ) (low_placed : place_of places fact.low ≡ Some from) (high_placed : place_of places fact.high ≡ Some to) (gains : Bool) (seen by : Best) (least : ℤ) (onward : List Best) (onward_is : (j : ℕ) → j < places.count → get_or onward j Absent ≡ or_nothing (nat_eq to j) (cell_at rows to j)) (said : IsTrue gains ↔ Reaches seen least) (seen_is : seen ≡ get_or onward from Absent) (least_is : least ≡ pos 1 +ℤ neg_ℤ fact.gap) (by_is : by ≡ through gains fact.gap) (after : Places) (raised : List (List Best)) (same_places : (x : ℕ) → place_of after x ≡ place_of places x) (len : after.count ≡ places.count) (cells : (i j : ℕ) → cell_at raised i j ≡ better (cell_at rows i j) (joined (joined (or_nothing (nat_eq i from) (cell_at rows i from)) by) (get_or onward j Absent))) → IsClosure (facts ++ fact ∷ []) after raised (is_absurd || gains)
IsClosure-step facts places rows is_absurd grid closure fact range from to low_placed high_placed gains seen by least onward onward_is said seen_is least_is by_is after raised same_places len cells =
    let back : seen ≡ reach (between places rows) fact.high fact.low = seen_is ∙ onward_is from (grid.below fact.low from low_placed) ∙ reach_placed places rows grid fact.high fact.low to from high_placed low_placed in
    let gains_is : IsTrue gains ↔ Reaches (reach (between places rows) fact.high fact.low) (pos 1 +ℤ neg_ℤ fact.gap) =
    subst (λ b. IsTrue gains ↔ Reaches b (pos 1 +ℤ neg_ℤ fact.gap)) back (subst (λ k. IsTrue gains ↔ Reaches seen k) least_is said) in
    IsClosure-raised facts places rows is_absurd grid closure fact range from to low_placed high_placed gains gains_is onward onward_is after raised same_places
    (λ i j. cells i j ∙ ap (λ b. better (cell_at rows i j) (joined (joined (or_nothing (nat_eq i from) (cell_at rows i from)) b) (get_or onward j Absent))) by_is)
    len

-- a fact that is shown already adds nothing
module _ (facts : List Difference) (fact : Difference) (already : Shows facts fact.low fact.gap fact.high) where
  chain_without : {x y : ℕ} {k : ℤ} → Chain (facts ++ fact ∷ []) x k y → Shows facts x k y
  chain_without {x} none = Shows-none x
  chain_without {y = y} (first f {k = k} h c) =
      ⊎_elim
      (λ old. Shows-then _ (omega (arith, ints)) (Shows-fact f old) (chain_without c))
      (λ new. subst (λ g. Shows facts g.low (g.gap +ℤ k) y) new (Shows-then _ (omega (arith, ints)) already (subst (λ g. Shows facts g.high k y) (sym new) (chain_without c))))
      (Contains-push_cases facts fact f h)

  shown_without : {x y : ℕ} {k : ℤ} → Shows (facts ++ fact ∷ []) x k y → Shows facts x k y
  shown_without {k = k} s = weaken k s.enough (chain_without s.chain)

  pub IsClosure-shown : (places : Places) (rows : List (List Best)) (is_absurd : Bool) → IsInRange (2 ^ 66) fact → IsClosure facts places rows is_absurd → IsClosure (facts ++ fact ∷ []) places rows is_absurd
  IsClosure-shown places rows is_absurd range closure = record {
    in_range = All-push (IsInRange (2 ^ 66)) facts fact closure.in_range range;
    named = closure.named;
    exact = record {
      sound = λ x y k h. Shows-more (fact ∷ []) (closure.exact.sound x y k h);
      complete = λ x y k s. closure.exact.complete x y k (shown_without s);
    };
    flag = (
      λ e. let a = closure.flag.0 e in record { node = a.node; sum = a.sum; above = a.above; chain = Chain-more (fact ∷ []) a.chain },
      λ a. let s = chain_without a.chain in closure.flag.1 (record { node = a.node; sum = s.sum; above = omega (arith, ints, a.above, s.enough); chain = s.chain }),
    );
  }

-- the same places and rows have the same closure
pub IsClosure-copied : (facts : List Difference) (places copied : Places) (rows wider : List (List Best)) (is_absurd : Bool) → copied ≡ places → wider ≡ rows → IsClosure facts places rows is_absurd → IsClosure facts copied wider is_absurd
IsClosure-copied facts places copied rows wider is_absurd same_seats same_rows closure =
    let same_place : (x : ℕ) → place_of copied x ≡ place_of places x = λ x. ap (λ (it : Places). place_of it x) same_seats in
    IsClosure-placed facts places copied rows wider is_absurd 0 (omega arith)
    (λ x p h. same_place x ∙ h)
    (λ p h. inl (subst (λ (it : Places). p < it.count) same_seats h))
    (λ x y. ap (λ rs. between copied rs x y) same_rows ∙ ap (λ p. cell_between rows p (place_of copied y)) (same_place x) ∙ ap (cell_between rows (place_of places x)) (same_place y))
    closure
