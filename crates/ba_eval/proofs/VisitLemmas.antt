-- Each step of the search is a visit of its own.
use Rattle.std.proofs.Common.{◌≡◌, ◌≢◌, ℕ, zero, suc, ◌+◌, ◌<◌, ◌≤◌, ◌⊎◌, inl, inr, Bool, false, List, [], ◌∷◌, ◌++◌, length, get_or, take, drop, map, Option, Some, slice_get, eqb, refl, sym, ap, ◌∙◌, subst, append_assoc, arith}
use Rattle.std.proofs.lemmas.Bool.Decides.{nat_tests}
use Rattle.std.proofs.lemmas.List.{append_cancel_left, length-append, take_more}
use Rattle.std.proofs.lemmas.List.Elements.{All-append, All-contains, All-cons, All-from_recursion, All-head, All-nil, All-tail, All-weaker, Contains-append_left, Contains-push}
use Rattle.std.proofs.lemmas.List.Kept.{AllPairs-cons}
use Rattle.std.specs.List.{All, AllPairs, Contains, IsDistinct}
use Rattle.std.specs.Prelude.{IsTrue}
use Rattle.ba_model.specs.Meaning.{rows_of}
use Rattle.ba_model.specs.declared.policy.Context.{Context}
use Rattle.ba_model.specs.declared.query.Atom.{Atom}
use Rattle.ba_model.specs.declared.query.Op.TheVariants.{Eq}
use Rattle.ba_model.specs.declared.query.Operand.{Operand}
use Rattle.ba_model.specs.declared.query.Operand.TheVariants.{Col, Val, Param, Var}
use Rattle.ba_model.specs.declared.query.Part.{Part}
use Rattle.ba_model.specs.declared.value.RowSet.{RowSet}
use Rattle.ba_model.specs.declared.value.Value.{Value}
use Rattle.ba_eval.proofs.EntryLemmas.{earlier_or_here}
use Rattle.ba_eval.proofs.GatherLemmas.{holds_back, table_of}
use Rattle.ba_eval.proofs.KeyLemmas.{distinct_take}
use Rattle.ba_eval.specs.Index.{AreCandidates, ArePlaces, IsSettledAt, IsOutside, MeetsSettled, StandsAt, StandsWithin}
use Rattle.ba_eval.specs.Visits.{AreAt, GoOn, IsVisit, MeetsEquations, Reached, Visited}
use Rattle.ba_eval.specs.declared.place.Place.{Place}
use Rattle.ba_eval.specs.declared.tie.Tie.{Tie}

-- an equation whose columns all stand in the first n + 1 places is settled at the last of them or stands before it

abbrev Before : ℕ → Operand → Operand → Type 0
Before n x y = (0 < n) × StandsWithin n x × StandsWithin n y

abbrev tie_to : ℕ → Operand → Tie
tie_to column other = record { column = column; other = record { ref_ptr = (0, 0); now = other } }

within_due : (n : ℕ) (atom : Atom) → atom.op ≡ Eq → StandsAt n atom.left → StandsAt n atom.right → IsSettledAt n atom
within_due n atom is l r = inl (record { equation = is; left = l; right = r })

one_side : (n : ℕ) (atom : Atom) (p k : ℕ) (y : Operand) → atom.op ≡ Eq → atom.left ≡ Col p k → atom.right ≡ y → p < n + 1 → StandsAt n y → StandsWithin n y → IsSettledAt n atom ⊎ Before n (Col p k) y
one_side n atom p k y is l r a at within =
    elim (earlier_or_here p n a) [
      | inl early ↦ inr (omega arith, early, within)
      | inr here ↦ inl (within_due n atom is (subst (StandsAt n) (sym l) here) (subst (StandsAt n) (sym r) at))
    ]

other_side : (n : ℕ) (atom : Atom) (x y : Operand) → atom.op ≡ Eq → atom.left ≡ x → atom.right ≡ y → StandsAt n x → StandsWithin n x → StandsWithin (n + 1) y → IsSettledAt n atom ⊎ Before n x y
other_side n atom x (Col q m) is l r at within b =
    elim (earlier_or_here q n b) [
      | inl early ↦ inr (omega arith, within, early)
      | inr here ↦ inl (within_due n atom is (subst (StandsAt n) (sym l) at) (subst (StandsAt n) (sym r) here))
    ]
other_side n atom x (Val v) is l r at within b = inl (within_due n atom is (subst (StandsAt n) (sym l) at) (subst (StandsAt n) (sym r) tt))
other_side n atom x (Param v) is l r at within b = inl (within_due n atom is (subst (StandsAt n) (sym l) at) (subst (StandsAt n) (sym r) tt))
other_side n atom x (Var v) is l r at within b = inl (within_due n atom is (subst (StandsAt n) (sym l) at) (subst (StandsAt n) (sym r) tt))

sides_due : (n : ℕ) (atom : Atom) (x y : Operand) → atom.op ≡ Eq → atom.left ≡ x → atom.right ≡ y → StandsWithin (n + 1) x → StandsWithin (n + 1) y → IsSettledAt n atom ⊎ Before n x y
sides_due n atom (Col p k) (Col q m) is l r a b =
    elim (earlier_or_here p n a) [
      | inl early ↦ elim (earlier_or_here q n b) [
        | inl first ↦ inr (omega arith, early, first)
        | inr here ↦ inl (inr (tie_to m (Col p k), record { equation = is; sides = inr (record { own_is = r ∙ ap (λ z. Col z m) here; other_is = l; outside = subst (IsOutside n) (sym l) early }) }))
      ]
      | inr at ↦ elim (earlier_or_here q n b) [
        | inl first ↦ inl (inr (tie_to k (Col q m), record { equation = is; sides = inl (record { own_is = l ∙ ap (λ z. Col z k) at; other_is = r; outside = subst (IsOutside n) (sym r) first }) }))
        | inr here ↦ inl (within_due n atom is (subst (StandsAt n) (sym l) at) (subst (StandsAt n) (sym r) here))
      ]
    ]
sides_due n atom (Col p k) (Val v) is l r a b = one_side n atom p k (Val v) is l r a tt tt
sides_due n atom (Col p k) (Param v) is l r a b = one_side n atom p k (Param v) is l r a tt tt
sides_due n atom (Col p k) (Var v) is l r a b = one_side n atom p k (Var v) is l r a tt tt
sides_due n atom (Val v) y is l r a b = other_side n atom (Val v) y is l r tt tt b
sides_due n atom (Param v) y is l r a b = other_side n atom (Param v) y is l r tt tt b
sides_due n atom (Var v) y is l r a b = other_side n atom (Var v) y is l r tt tt b

pub due_or_before : (n : ℕ) (atom : Atom) → atom.op ≡ Eq → StandsWithin (n + 1) atom.left → StandsWithin (n + 1) atom.right → IsSettledAt n atom ⊎ Before n atom.left atom.right
due_or_before n atom is a b = sides_due n atom atom.left atom.right is refl refl a b

-- one place further

are_push : (d : RowSet) (tables positions : List ℕ) (rows : List (List Value)) (table : ℕ) (from : List ℕ) (position : ℕ) (row : List Value) → AreAt d tables positions rows → drop (length positions) tables ≡ table ∷ from → slice_get (rows_of d table) position ≡ Some row → AreAt d tables (positions ++ position ∷ []) (rows ++ row ∷ [])
are_push d [] [] [] table from position row h e at = cc
are_push d (t ∷ tables) [] [] table from position row h e at =
    let same : table ≡ t = cc in (subst (λ x. slice_get (rows_of d x) position ≡ Some row) same at, tt)
are_push d tables [] (r ∷ rows) table from position row h e at = absurd h
are_push d [] (p ∷ positions) rows table from position row h e at = absurd h
are_push d (t ∷ tables) (p ∷ positions) [] table from position row h e at = absurd h
are_push d (t ∷ tables) (p ∷ positions) (r ∷ rows) table from position row h e at = (h.0, are_push d tables positions rows table from position row h.1 e at)

drop_one : {X : Type 0} (n : ℕ) (xs : List X) (x : X) (ys : List X) → drop n xs ≡ x ∷ ys → drop (suc n) xs ≡ ys
drop_one zero [] x ys e = cc
drop_one zero (z ∷ xs) x ys e = cc
drop_one (suc n) [] x ys e = cc
drop_one (suc n) (z ∷ xs) x ys e = drop_one n xs x ys e

one_longer : {X : Type 0} (xs : List X) (x : X) → length (xs ++ x ∷ []) ≡ suc (length xs)
one_longer [] x = refl
one_longer (y ∷ xs) x = ap suc (one_longer xs x)

module _ (c : Context) (d : RowSet) (part : Part) (table : ℕ) (from before : List ℕ) (chosen : List (List Value)) (at : Reached c d part (table ∷ from) before chosen) (position : ℕ) (row : List Value) (row_is : slice_get (rows_of d table) position ≡ Some row) (due : MeetsSettled c part chosen row) where
  longer : length (chosen ++ row ∷ []) ≡ length chosen + 1
  longer = length-append chosen (row ∷ [])

  met_beside : MeetsEquations c part (chosen ++ row ∷ [])
  met_beside atom there is l r =
      let left = subst (λ n. StandsWithin n atom.left) longer l in
      let right = subst (λ n. StandsWithin n atom.right) longer r in
      elim (due_or_before (length chosen) atom is left right) [
        | inl now ↦ due atom there now
        | inr old ↦ holds_back c chosen (row ∷ []) atom old.1 old.2 (at.met old.0 atom there is old.1 old.2)
      ]

  are_beside : AreAt d part.from (before ++ position ∷ []) (chosen ++ row ∷ [])
  are_beside = are_push d part.from before chosen table from position row at.are at.left row_is

  pub reached : Reached c d part from (before ++ position ∷ []) (chosen ++ row ∷ [])
  reached = record {
    left = subst (λ n. drop n part.from ≡ from) (sym (one_longer before position)) (drop_one (length before) part.from table from at.left);
    are = are_beside;
    met = λ some. met_beside;
  }

  pub visit : IsVisit c d part (before ++ position ∷ [])
  visit = record {
    rows = chosen ++ row ∷ [];
    some = subst (λ n. 0 < n) (sym (length-append before (position ∷ []))) (omega arith);
    are = are_beside;
    met = met_beside;
  }

-- visits by different rows differ

differ : (before more last : List ℕ) (p q : ℕ) → (p ≡ q → ⊥) → before ++ p ∷ more ≡ before ++ q ∷ last → ⊥
differ before more last p q apart e =
    let rest : p ∷ more ≡ q ∷ last = append_cancel_left before (p ∷ more) (q ∷ last) e in
    apart (let same : p ≡ q = cc in same)

unlike : (p q : ℕ) → eqb p q ≡ false → p ≡ q → ⊥
unlike p q e same = grind (arith, nat_tests)

last_differs : {X : Type 0} (e : X → X → Bool) (xs : List X) (y : X) → IsDistinct e (xs ++ y ∷ []) → All (λ x. e x y ≡ false) xs
unfolding IsDistinct
last_differs e [] y h = All-nil (λ x. e x y ≡ false)
last_differs e (x ∷ xs) y h =
    All-cons (λ x. e x y ≡ false) x xs
    (All-contains (λ z. e x z ≡ false) (xs ++ y ∷ []) y (All-from_recursion (λ z. e x z ≡ false) (xs ++ y ∷ []) h.0) (Contains-push xs y))
    (last_differs e xs y h.1)

pairs_tail : {X : Type 0} (R : X → X → Type 0) (x : X) (xs : List X) → AllPairs R (x ∷ xs) → AllPairs R xs
pairs_tail R x xs h i j d less below = h (suc i) (suc j) d (omega arith) (omega arith)

pairs_head : {X : Type 0} (R : X → X → Type 0) (x : X) (xs : List X) → AllPairs R (x ∷ xs) → All (R x) xs
pairs_head R x xs h k d below = h zero (suc k) d (omega arith) (omega arith)

pairs_append : {X : Type 0} (R : X → X → Type 0) (xs ys : List X) → AllPairs R xs → AllPairs R ys → All (λ x. All (R x) ys) xs → AllPairs R (xs ++ ys)
pairs_append R [] ys a b h = b
pairs_append R (x ∷ xs) ys a b h =
    AllPairs-cons R x (xs ++ ys) (All-append (R x) xs ys (pairs_head R x xs a) (All-head (λ x. All (R x) ys) x xs h)) (pairs_append R xs ys (pairs_tail R x xs a) b (All-tail (λ x. All (R x) ys) x xs h))

-- what the loop over a place's numbers has visited
pub record Visiting (c : Context) (d : RowSet) (part : Part) (before : List ℕ) (numbers : List ℕ) (old new : ℕ) : Type 0 where
  pub visits : List (List ℕ)
  pub each : All (IsVisit c d part) visits
  pub beyond : All (λ v. (number : ℕ) × Contains numbers number × (more : List ℕ) × (v ≡ before ++ number ∷ more)) visits
  pub distinct : AllPairs (λ x y. x ≢ y) visits
  pub count : new ≤ old + length visits

none_apart : {X : Type 0} (R : X → X → Type 0) → AllPairs R []
none_apart R i j d less below = absurd (omega arith)

pub none_visited : (c : Context) (d : RowSet) (part : Part) (before : List ℕ) (n : ℕ) → Visited c d part before n n
none_visited c d part before n = record { visits = []; each = All-nil (IsVisit c d part); beyond = All-nil (GoOn before); distinct = none_apart (λ x y. x ≢ y); count = omega arith }

pub none_visiting : (c : Context) (d : RowSet) (part : Part) (before : List ℕ) (numbers : List ℕ) (n : ℕ) → Visiting c d part before numbers n n
none_visiting c d part before numbers n = record { visits = []; each = All-nil (IsVisit c d part); beyond = All-nil (λ v. (number : ℕ) × Contains numbers number × (more : List ℕ) × (v ≡ before ++ number ∷ more)); distinct = none_apart (λ x y. x ≢ y); count = omega arith }

pub all_visited : (c : Context) (d : RowSet) (part : Part) (before : List ℕ) (numbers : List ℕ) (old new : ℕ) → Visiting c d part before numbers old new → Visited c d part before old new
all_visited c d part before numbers old new h = record {
  visits = h.visits;
  each = h.each;
  beyond = All-weaker (λ v. (number : ℕ) × Contains numbers number × (more : List ℕ) × (v ≡ before ++ number ∷ more)) (GoOn before) (λ v b. (b.0, b.2, b.3)) h.visits h.beyond;
  distinct = h.distinct;
  count = h.count;
}

grows : (xs : List ℕ) (p : ℕ) (more : List ℕ) → length xs ≡ length xs + length (p ∷ more) → ⊥
grows xs p more e = omega arith

-- the visit of an number's row and those that go on from it
module _ (c : Context) (d : RowSet) (part : Part) (before : List ℕ) (numbers : List ℕ) (apart : IsDistinct eqb numbers) (i : ℕ) (number : ℕ) (below : i < length numbers) (here : number ≡ get_or numbers i number) (visit : IsVisit c d part (before ++ number ∷ [])) (old mid new : ℕ) (first : Visiting c d part before (take i numbers) old mid) (deeper : Visited c d part (before ++ number ∷ []) (mid + 1) new) where
  abbrev own : List ℕ
  own = before ++ number ∷ []

  abbrev By : List ℕ → List ℕ → Type 0
  By es v = (number : ℕ) × Contains es number × (more : List ℕ) × (v ≡ before ++ number ∷ more)

  abbrev fresh : List (List ℕ)
  fresh = own ∷ deeper.visits

  one_more : take (i + 1) numbers ≡ take i numbers ++ number ∷ []
  one_more = subst (λ q. take (i + 1) numbers ≡ take i numbers ++ q ∷ []) (sym here) (take_more numbers i number below)

  others : All (λ x. eqb x number ≡ false) (take i numbers)
  others = last_differs eqb (take i numbers) number (subst (IsDistinct eqb) one_more (distinct_take eqb (i + 1) numbers apart))

  -- the new visits go by the number
  by_number : (v : List ℕ) → GoOn own v → (more : List ℕ) × (v ≡ before ++ number ∷ more)
  by_number v (p, more, e) = (p ∷ more, e ∙ append_assoc before (number ∷ []) (p ∷ more))

  fresh_by : All (λ v. (more : List ℕ) × (v ≡ before ++ number ∷ more)) fresh
  fresh_by = All-cons (λ v. (more : List ℕ) × (v ≡ before ++ number ∷ more)) own deeper.visits ([], refl) (All-weaker (GoOn own) (λ v. (more : List ℕ) × (v ≡ before ++ number ∷ more)) by_number deeper.visits deeper.beyond)

  not_own : (v : List ℕ) → GoOn own v → own ≡ v → ⊥
  not_own v (p, more, e) same =
      let longer : length (own ++ p ∷ more) ≡ length own + length (p ∷ more) = length-append own (p ∷ more) in
      let equal : length own ≡ length (own ++ p ∷ more) = ap length (same ∙ e) in
      absurd (grows own p more (equal ∙ longer))

  pub visits_more : Visiting c d part before (take (i + 1) numbers) old new
  visits_more = record {
    visits = first.visits ++ fresh;
    each = All-append (IsVisit c d part) first.visits fresh first.each (All-cons (IsVisit c d part) own deeper.visits visit deeper.each);
    beyond = All-append (By (take (i + 1) numbers)) first.visits fresh
        (All-weaker (By (take i numbers)) (By (take (i + 1) numbers)) (λ v b. (b.0, subst (λ es. Contains es b.0) (sym one_more) (Contains-append_left (take i numbers) (number ∷ []) b.0 b.1), b.2, b.3)) first.visits first.beyond)
        (All-weaker (λ v. (more : List ℕ) × (v ≡ before ++ number ∷ more)) (By (take (i + 1) numbers)) (λ v b. (number, subst (λ es. Contains es number) (sym one_more) (Contains-push (take i numbers) number), b.0, b.1)) fresh fresh_by);
    distinct = pairs_append (λ x y. x ≢ y) first.visits fresh first.distinct
        (AllPairs-cons (λ x y. x ≢ y) own deeper.visits (All-weaker (GoOn own) (λ v. own ≢ v) not_own deeper.visits deeper.beyond) deeper.distinct)
        (All-weaker (By (take i numbers)) (λ x. All (λ y. x ≢ y) fresh) (λ x b. All-weaker (λ v. (more : List ℕ) × (v ≡ before ++ number ∷ more)) (λ y. x ≢ y) (λ y f e. apart_by x y b f e) fresh fresh_by) first.visits first.beyond);
    count = counted (length first.visits) (length deeper.visits) (length (first.visits ++ fresh)) (length-append first.visits fresh) first.count deeper.count;
  }
    where
      apart_by : (x y : List ℕ) → By (take i numbers) x → ((more : List ℕ) × (y ≡ before ++ number ∷ more)) → x ≡ y → ⊥
      apart_by x y (e, there, more, x_is) (last, y_is) same =
          differ before more last e number
          (unlike e number (All-contains (λ x. eqb x number ≡ false) (take i numbers) e others there))
          (sym x_is ∙ (same ∙ y_is))

      counted : (a b n : ℕ) → n ≡ a + suc b → mid ≤ old + a → new ≤ mid + 1 + b → new ≤ old + n
      counted a b n e f g = omega arith

some_row : {X : Type 0} (o : Option X) (x y : X) → o ≡ Some x → o ≡ Some y → x ≡ y
some_row o x y a b = let e : Some x ≡ Some y = sym a ∙ b in cc

-- the first of the places, over the chosen rows
module _ (bounded : Bool) (bound : IsTrue bounded) (c : Context) (d : RowSet) (part : Part) (chosen : List (List Value)) (places rest : List Place) (place : Place) (split : places ≡ place ∷ rest) (are : ArePlaces bounded c d part (length chosen) places) (numbers : List ℕ) (candidates : AreCandidates bounded c d part place.table chosen numbers) (before : List ℕ) (at : Reached c d part (map table_of places) before chosen) where
  pub steps_more : (i : ℕ) (number : ℕ) → i < length numbers → number ≡ get_or numbers i number → (row : List Value) → slice_get place.rows.now number ≡ Some row → (deeper : List (List Value)) → deeper ≡ chosen ++ row ∷ [] → (old mid read new : ℕ) → read ≡ mid + 1 → Visiting c d part before (take i numbers) old mid → ((positions : List ℕ) → Reached c d part (map table_of rest) positions deeper → Visited c d part positions read new) → Visiting c d part before (take (i + 1) numbers) old new
  steps_more i number below here row row_is deeper e old mid read new tick first child =
      let own = subst (ArePlaces bounded c d part (length chosen)) split are in
      let in_table = subst (λ rows. slice_get rows number ≡ Some row) own.0.rows_are row_is in
      let s = candidates.sound number (i, below, sym here) in
      let due = subst (MeetsSettled c part chosen) (some_row (slice_get (rows_of d place.table) number) s.0 row s.1 in_table) (s.2 bound) in
      let here_at = subst (λ ps. Reached c d part (map table_of ps) before chosen) split at in
      let further = reached c d part place.table (map table_of rest) before chosen here_at number row in_table due in
      let below_it = child (before ++ number ∷ []) (subst (Reached c d part (map table_of rest) (before ++ number ∷ [])) (sym e) further) in
      visits_more c d part before numbers candidates.distinct i number below here (visit c d part place.table (map table_of rest) before chosen here_at number row in_table due) old mid new first (subst (λ n. Visited c d part (before ++ number ∷ []) n new) tick below_it)
