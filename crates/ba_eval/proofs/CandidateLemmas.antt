-- In an index that was made for the answer the entries with the key of the chosen rows are those of the rows that make the
-- place's equations true beside them.
use Rattle.std.proofs.Common.{Bool, ◌≡◌, ◌≢◌, ℕ, zero, suc, ◌<◌, ◌⊎◌, inl, inr, false, List, [], ◌∷◌, ◌++◌, length, get_or, map, Option, Some, None, slice_get, eqb, refl, sym, ap, ◌∙◌, subst, arith}
use Rattle.std.proofs.lemmas.List.Elements.{All-contains, All-from_recursion, Contains-append_cases, Contains-append_left, Contains-append_right, Contains-get_or, Contains-push, Contains-push_cases, recursion_from_All}
use Rattle.std.proofs.lemmas.Option.{slice_get_within}
use Rattle.std.specs.Borrow.{Bor}
use Rattle.std.specs.List.{Contains, IsDistinct}
use Rattle.std.specs.Prelude.{option_and_then}
use Rattle.ba_model.proofs.ElementLemmas.{Contains-nil}
use Rattle.ba_model.specs.Meaning.{Compares, Holds, rows_of, value_of}
use Rattle.ba_model.specs.declared.policy.Context.{Context}
use Rattle.ba_model.specs.declared.query.Atom.{Atom}
use Rattle.ba_model.specs.declared.query.Op.{Op}
use Rattle.ba_model.specs.declared.query.Op.TheVariants.{Eq}
use Rattle.ba_model.specs.declared.query.Operand.{Operand}
use Rattle.ba_model.specs.declared.query.Operand.TheVariants.{Col, Val, Param, Var}
use Rattle.ba_model.specs.declared.query.Part.{Part}
use Rattle.ba_model.specs.declared.value.RowSet.{RowSet}
use Rattle.ba_model.specs.declared.value.Value.{Value}
use Rattle.ba_model.specs.declared.value.Value.TheVariants.{Null, Int, Text}
use Rattle.ba_eval.proofs.HeadLemmas.{one_head}
use Rattle.ba_eval.specs.Index.{known, key_of, same_number, value_in, AreCandidates, AreEqual, HasKey, HaveKey, HaveKeyIfAny, HaveNumbers, IsOutside, IsEntry, IsKey, IsMade, IsTie, IsWithin, MeetsSettled, MeetsWithin, StandsAt, Ties}
use Rattle.ba_eval.specs.declared.place.Entry.{Entry}
use Rattle.ba_eval.specs.declared.tie.Tie.{Tie}

-- an equation holds exactly where its sides are equal

known_some : (v : Value) → v ≢ Null → known (Some v) ≡ Some v
known_some Null h = absurd (h refl)
known_some (Int n) h = refl
known_some (Text s) h = refl

known_is : (o : Option Value) (v : Value) → known o ≡ Some v → (o ≡ Some v) × (v ≢ Null)
known_is None v e = cc
known_is (Some Null) v e = cc
known_is (Some (Int n)) v e = (e, λ is. cc)
known_is (Some (Text s)) v e = (e, λ is. cc)

equal_from : (op : Op) (o p : Option Value) (a b : Value) → op ≡ Eq → o ≡ Some a → p ≡ Some b → Compares op a b → AreEqual o p
equal_from op o p a b is oa pb h =
    let eq = subst (λ x. Compares x a b) is h in
    record {
      value = a;
      left = ap known oa ∙ known_some a eq.0;
      right = ap known (pb ∙ ap Some (sym eq.1)) ∙ known_some a eq.0;
    }

pub equal_from_holds : (c : Context) (rows : List (List Value)) (atom : Atom) → atom.op ≡ Eq → Holds c rows atom → AreEqual (value_of c rows atom.left) (value_of c rows atom.right)
equal_from_holds c rows atom is h = equal_from atom.op _ _ h.left h.right is h.left_is h.right_is h.compared

pub holds_from_equal : (c : Context) (rows : List (List Value)) (atom : Atom) → atom.op ≡ Eq → AreEqual (value_of c rows atom.left) (value_of c rows atom.right) → Holds c rows atom
holds_from_equal c rows atom is e =
    let l = known_is (value_of c rows atom.left) e.value e.left in
    let r = known_is (value_of c rows atom.right) e.value e.right in
    record {
      left = e.value;
      right = e.value;
      left_is = l.0;
      right_is = r.0;
      compared = subst (λ x. Compares x e.value e.value) (sym is) (l.1, refl);
    }

equal_at : (a b x y : Option Value) → a ≡ x → b ≡ y → AreEqual x y → AreEqual a b
equal_at a b x y ax by e = record { value = e.value; left = ap known ax ∙ e.left; right = ap known by ∙ e.right }

flipped : (a b : Option Value) → AreEqual a b → AreEqual b a
flipped a b e = record { value = e.value; left = e.right; right = e.left }

-- the values beside the chosen rows

get_last : {X : Type 0} (xs : List X) (x : X) → slice_get (xs ++ x ∷ []) (length xs) ≡ Some x
get_last [] x = refl
get_last (y ∷ xs) x = get_last xs x

get_before : {X : Type 0} (xs : List X) (x : X) (i : ℕ) → i < length xs → slice_get (xs ++ x ∷ []) i ≡ slice_get xs i
get_before [] x i h = absurd (omega arith)
get_before (y ∷ xs) x zero h = refl
get_before (y ∷ xs) x (suc i) h = get_before xs x i (omega arith)

module _ (c : Context) (chosen : List (List Value)) (row : List Value) where
  abbrev beside : List (List Value)
  beside = chosen ++ row ∷ []

  own_value : (k : ℕ) → value_of c beside (Col (length chosen) k) ≡ slice_get row k
  own_value k = ap (option_and_then (λ r. slice_get r k)) (get_last chosen row)

  value_at : (x : Operand) → StandsAt (length chosen) x → value_of c beside x ≡ value_in c row x
  value_at (Col p k) is = ap (λ n. value_of c beside (Col n k)) is ∙ own_value k
  value_at (Val v) is = refl
  value_at (Param n) is = refl
  value_at (Var n) is = refl

  value_outside : (x : Operand) → IsOutside (length chosen) x → value_of c beside x ≡ value_of c chosen x
  value_outside (Col p k) is = ap (option_and_then (λ r. slice_get r k)) (get_before chosen row p is)
  value_outside (Val v) is = refl
  value_outside (Param n) is = refl
  value_outside (Var n) is = refl

  -- what a tie says of the two sides
  abbrev TieEqual : Tie → Type 0
  TieEqual tie = AreEqual (slice_get row tie.column) (value_of c chosen tie.other.now)

  side_own : (own other : Operand) (tie : Tie) → Ties (length chosen) own other tie → value_of c beside own ≡ slice_get row tie.column
  side_own own other tie t = ap (value_of c beside) t.own_is ∙ own_value tie.column

  side_other : (own other : Operand) (tie : Tie) → Ties (length chosen) own other tie → value_of c beside other ≡ value_of c chosen tie.other.now
  side_other own other tie t = value_outside other t.outside ∙ ap (value_of c chosen) t.other_is

  tie_holds : (atom : Atom) (tie : Tie) → IsTie (length chosen) atom tie → TieEqual tie → Holds c beside atom
  tie_holds atom tie is e =
      holds_from_equal c beside atom is.equation
      (elim is.sides [
        | inl t ↦ equal_at _ _ _ _ (side_own _ _ tie t) (side_other _ _ tie t) e
        | inr t ↦ equal_at _ _ _ _ (side_other _ _ tie t) (side_own _ _ tie t) (flipped _ _ e)
      ])

  tie_met : (atom : Atom) (tie : Tie) → IsTie (length chosen) atom tie → Holds c beside atom → TieEqual tie
  tie_met atom tie is h =
      let e = equal_from_holds c beside atom is.equation h in
      elim is.sides [
        | inl t ↦ equal_at _ _ _ _ (sym (side_own _ _ tie t)) (sym (side_other _ _ tie t)) e
        | inr t ↦ equal_at _ _ _ _ (sym (side_own _ _ tie t)) (sym (side_other _ _ tie t)) (flipped _ _ e)
      ]

  within_holds : (atom : Atom) → IsWithin (length chosen) atom → AreEqual (value_in c row atom.left) (value_in c row atom.right) → Holds c beside atom
  within_holds atom w e = holds_from_equal c beside atom w.equation (equal_at _ _ _ _ (value_at atom.left w.left) (value_at atom.right w.right) e)

  within_met : (atom : Atom) → IsWithin (length chosen) atom → Holds c beside atom → AreEqual (value_in c row atom.left) (value_in c row atom.right)
  within_met atom w h = equal_at _ _ _ _ (sym (value_at atom.left w.left)) (sym (value_at atom.right w.right)) (equal_from_holds c beside atom w.equation h)

-- two keys are equal exactly where the tied values are

both_known : (f g : Tie → Option Value) (ties : List Tie) (key : List Value) → map f ties ≡ map Some key → map g ties ≡ map Some key → (k : ℕ) (d : Tie) → k < length ties → (v : Value) × (f (get_or ties k d) ≡ Some v) × (g (get_or ties k d) ≡ Some v)
both_known f g [] key a b k d h = absurd (omega arith)
both_known f g (t ∷ ties) [] a b k d h = cc
both_known f g (t ∷ ties) (v ∷ key) a b zero d h = (v, cc, cc)
both_known f g (t ∷ ties) (v ∷ key) a b (suc k) d h =
    let later_f : map f ties ≡ map Some key = cc in
    let later_g : map g ties ≡ map Some key = cc in
    both_known f g ties key later_f later_g k d (omega arith)

both_at : (f g : Tie → Option Value) (ties : List Tie) (key : List Value) → map f ties ≡ map Some key → map g ties ≡ map Some key → (t : Tie) → Contains ties t → (v : Value) × (f t ≡ Some v) × (g t ≡ Some v)
both_at f g ties key a b t (k, below, at) =
    let r = both_known f g ties key a b k t below in
    (r.0, subst (λ x. f x ≡ Some r.0) at r.1, subst (λ x. g x ≡ Some r.0) at r.2)

cons_both : {X : Type 0} (a b : X) (xs ys : List X) → a ≡ b → xs ≡ ys → a ∷ xs ≡ b ∷ ys
cons_both a b xs ys e f = cc

pub Contains-here : {X : Type 0} (x : X) (xs : List X) → Contains (x ∷ xs) x
Contains-here x xs = Contains-append_left (x ∷ []) xs x (Contains-push [] x)

pub Contains-later : {X : Type 0} (x : X) (xs : List X) (y : X) → Contains xs y → Contains (x ∷ xs) y
Contains-later x xs y h = Contains-append_right (x ∷ []) xs y h

pub record BothKeys (f g : Tie → Option Value) (ties : List Tie) : Type 0 where
  pub key : List Value
  pub left : map f ties ≡ map Some key
  pub right : map g ties ≡ map Some key

keys_from : (f g : Tie → Option Value) (ties : List Tie) → ((tie : Tie) → Contains ties tie → (v : Value) × (f tie ≡ Some v) × (g tie ≡ Some v)) → BothKeys f g ties
keys_from f g [] h = record { key = []; left = refl; right = refl }
keys_from f g (t ∷ ties) h =
    let first = h t (Contains-here t ties) in
    let rest = keys_from f g ties (λ tie k. h tie (Contains-later t ties tie k)) in
    record {
      key = first.0 ∷ rest.key;
      left = cons_both (f t) (Some first.0) (map f ties) (map Some rest.key) first.1 rest.left;
      right = cons_both (g t) (Some first.0) (map g ties) (map Some rest.key) first.2 rest.right;
    }

pub cons_cases : {X : Type 0} (x : X) (xs : List X) (y : X) → Contains (x ∷ xs) y → (x ≡ y) ⊎ Contains xs y
cons_cases x xs y h =
    elim (Contains-append_cases (x ∷ []) xs y h) [
      | inl first ↦ elim (Contains-push_cases [] x y first) [ inl none ↦ absurd (Contains-nil y none) | inr is ↦ inl is ]
      | inr later ↦ inr later
    ]

pub Contains-in_map : {X Y : Type 0} (u : X → Y) (xs : List X) (y : Y) → Contains (map u xs) y → (x : X) × Contains xs x × (u x ≡ y)
Contains-in_map u [] y h = absurd (Contains-nil y h)
Contains-in_map u (x ∷ xs) y h =
    elim (cons_cases (u x) (map u xs) y h) [
      | inl is ↦ (x, Contains-here x xs, is)
      | inr later ↦ (let r = Contains-in_map u xs y later in (r.0, Contains-later x xs r.0 r.1, r.2))
    ]

pub Contains-of_map : {X Y : Type 0} (u : X → Y) (xs : List X) (x : X) → Contains xs x → Contains (map u xs) (u x)
Contains-of_map u [] x h = absurd (Contains-nil x h)
Contains-of_map u (z ∷ xs) x h =
    elim (cons_cases z xs x h) [
      | inl is ↦ subst (λ w. Contains (u z ∷ map u xs) (u w)) is (Contains-here (u z) (map u xs))
      | inr later ↦ Contains-later (u z) (map u xs) (u x) (Contains-of_map u xs x later)
    ]

abbrev number_of : Entry → ℕ
number_of entry = entry.number

distinct_numbers : (entries : List Entry) → IsDistinct same_number entries → IsDistinct eqb (map number_of entries)
unfolding IsDistinct
distinct_numbers [] h = h
distinct_numbers (e ∷ entries) h =
    let apart = All-from_recursion (λ x. same_number e x ≡ false) entries h.0 in (
      recursion_from_All (λ n. eqb e.number n ≡ false) (map number_of entries) (λ k d below.
          let r = Contains-in_map number_of entries _ (Contains-get_or (map number_of entries) k d below) in
          subst (λ n. eqb e.number n ≡ false) r.2 (All-contains (λ x. same_number e x ≡ false) entries r.0 apart r.1)),
      distinct_numbers entries h.1,
    )

-- the values of a row that makes true what the place settles are what the ties give
module _ (c : Context) (part : Part) (chosen : List (List Value)) (ties : List Tie) (sound : (tie : Tie) → Contains ties tie → (atom : Atom) × Contains part.conds atom × IsTie (length chosen) atom tie) where
  abbrev pub f : List Value → Tie → Option Value
  f row tie = known (slice_get row tie.column)

  abbrev pub g : Tie → Option Value
  g tie = known (value_of c chosen tie.other.now)

  pub tied : (row : List Value) → MeetsSettled c part chosen row → BothKeys (f row) g ties
  tied row due = keys_from (f row) g ties (λ tie h.
      let s = sound tie h in
      let e = tie_met c chosen row s.0 tie s.2 (due s.0 s.1 (inr (tie, s.2))) in
      (e.value, e.left, e.right))

  pub none_tied : (bounded : Bool) (d : RowSet) (table : ℕ) → IsKey g ties None → AreCandidates bounded c d part table chosen []
  unfolding IsDistinct
  none_tied bounded d table none = record {
    sound = λ entry h. absurd (Contains-nil entry h);
    complete = λ number row at due. let keys = tied row due in absurd (none keys.key keys.right);
    distinct = tt;
  }

  -- a tie holds of a row whose key is that of the chosen rows
  pub tie_known : (key row_key : List Value) → map g ties ≡ map Some key → (row : List Value) → HasKey ties row row_key → row_key ≡ key → (atom : Atom) (tie : Tie) → Contains ties tie → IsTie (length chosen) atom tie → Holds c (chosen ++ row ∷ []) atom
  tie_known key row_key key_is row has same atom tie there is =
      let e = both_at (f row) g ties key (subst (λ k. map (f row) ties ≡ map Some k) same has) key_is tie there in
      tie_holds c chosen row atom tie is (record { value = e.0; left = e.1; right = e.2 })

module _ (bounded : Bool) (c : Context) (d : RowSet) (part : Part) (chosen : List (List Value)) (table : ℕ) (rows : List (List Value)) (ties : List Tie) (entries : List Entry) (rows_are : rows ≡ rows_of d table) (is : IsMade c part.conds (length chosen) rows ties entries) where
  in_table : (number : ℕ) (row : List Value) → slice_get (rows_of d table) number ≡ Some row → slice_get rows number ≡ Some row
  in_table number row e = subst (λ rows. slice_get rows number ≡ Some row) (sym rows_are) e

  meets : (row : List Value) → MeetsSettled c part chosen row → MeetsWithin c (length chosen) row part.conds
  meets row due k x below w =
      let atom = get_or part.conds k x in
      within_met c chosen row atom w (due atom (Contains-get_or part.conds k x below) (inl w))

  module _ (key : List Value) (key_is : map (g c part chosen ties is.ties_are.sound) ties ≡ map Some key) (found : List Entry) (have : HaveKey entries key found) where
    due_met : (entry : Entry) (row : List Value) → MeetsWithin c (length chosen) row part.conds → HasKey ties row (key_of entry) → key_of entry ≡ key → MeetsSettled c part chosen row
    due_met entry row within has same atom there (inl w) = within_holds c chosen row atom w (All-contains (λ x. IsWithin (length chosen) x → AreEqual (value_in c row x.left) (value_in c row x.right)) part.conds atom within there w)
    due_met entry row within has same atom there (inr (tie, is_tie)) =
        let own = is.ties_are.complete atom tie there is_tie in
        tie_known c part chosen ties is.ties_are.sound key (key_of entry) key_is row has same atom own.0 own.1 own.2

    candidates : AreCandidates bounded c d part table chosen (map number_of found)
    candidates = record {
      sound = λ number h.
          let by = Contains-in_map number_of found number h in
          let entry = by.0 in
          let there = have.only entry by.1 in
          let e = All-contains (IsEntry c part.conds (length chosen) rows ties) entries entry is.entered.sound there in
          let same = All-contains (λ x. key_of x ≡ key) found entry have.sound by.1 in
          (e.row, subst (λ rows. slice_get rows number ≡ Some e.row) rows_are (subst (λ n. slice_get rows n ≡ Some e.row) by.2 e.row_is), λ bound. due_met entry e.row e.within e.key same);
      complete = λ number row at due.
          let keys = tied c part chosen ties is.ties_are.sound row due in
          let at_own = in_table number row at in
          let h = is.entered.complete number row keys.key (slice_get_within rows number row at_own) at_own (meets row due) keys.left in
          subst (Contains (map number_of found)) h.number_is (Contains-of_map number_of found h.entry (have.complete h.entry h.there (h.key_is ∙ one_head keys.key key (sym keys.right ∙ key_is))));
      distinct = distinct_numbers found (have.distinct is.entered.distinct);
    }

  by_key : (key : Option (List (Bor Value))) (found : List Entry) → IsKey (g c part chosen ties is.ties_are.sound) ties key → HaveKeyIfAny entries key found → AreCandidates bounded c d part table chosen (map number_of found)
  by_key None found k h = subst (λ es. AreCandidates bounded c d part table chosen (map number_of es)) (sym h) (none_tied c part chosen ties is.ties_are.sound bounded d table k)
  by_key (Some key) found k h = candidates (map (λ v. v.now) key) k found h

  pub made_candidates : (key : Option (List (Bor Value))) (numbers : List ℕ) → IsKey (g c part chosen ties is.ties_are.sound) ties key → HaveNumbers entries key numbers → AreCandidates bounded c d part table chosen numbers
  made_candidates key numbers k h = subst (AreCandidates bounded c d part table chosen) (sym h.are) (by_key key h.found k h.have)
