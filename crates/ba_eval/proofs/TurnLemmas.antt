-- Rows chosen for the places in one turn, seen from those in the other.
use Rattle.std.proofs.Common.{◌≡◌, ℕ, zero, suc, ◌+◌, ◌<◌, ◌≤◌, ◌⊎◌, inl, inr, List, [], ◌∷◌, ◌++◌, length, get_or, map, take, refl, sym, ap, ◌∙◌, subst, arith}
use Rattle.std.proofs.lemmas.List.{length-map, map-append, take_all, take_more}
use Rattle.std.proofs.lemmas.List.Elements.{All-contains, Contains-get_or}
use Rattle.std.proofs.lemmas.Option.{slice_get_within, slice_get_past, slice_get_cases, slice_get-map, slice_get-get_or, get_or_from_slice_get}
use Rattle.std.specs.List.{Contains}
use Rattle.std.specs.Prelude.{⊤, Option, Some, None, slice_get, unwrap_or, option_and_then, option_map}
use Rattle.ba_model.proofs.FitLemmas.{AllZip-at}
use Rattle.ba_model.specs.Meaning.{Gives, Holds, InPart, IsAnswer, IsChoice, rows_of, value_of}
use Rattle.ba_model.specs.declared.policy.Context.{Context}
use Rattle.ba_model.specs.declared.query.Atom.{Atom}
use Rattle.ba_model.specs.declared.query.Operand.{Operand}
use Rattle.ba_model.specs.declared.query.Operand.TheVariants.{Col, Val, Param, Var}
use Rattle.ba_model.specs.declared.query.Part.{Part}
use Rattle.ba_model.specs.declared.query.Query.{Query}
use Rattle.ba_model.specs.declared.value.RowSet.{RowSet}
use Rattle.ba_model.specs.declared.value.Value.{Value}
use Rattle.ba_model.proofs.ElementLemmas.{Contains-nil}
use Rattle.ba_eval.proofs.CandidateLemmas.{cons_cases, Contains-here, Contains-in_map, Contains-later, Contains-of_map}
use Rattle.ba_eval.proofs.EntryLemmas.{earlier_or_here}
use Rattle.ba_eval.specs.Turn.{rename, rename_atom, IsTurn, SameAnswers, SameRows, TurnedBy}

-- the row at a place
abbrev row_at : List (List Value) → ℕ → List Value
row_at rows i = unwrap_or (slice_get rows i) []

abbrev rows_at : List (List Value) → List ℕ → List (List Value)
rows_at rows to = map (row_at rows) to

choice_moved : (d : RowSet) (from : List ℕ) (rows : List (List Value)) → IsChoice d from rows → (to from' : List ℕ) → map (slice_get from) to ≡ map Some from' → IsChoice d from' (rows_at rows to)
choice_moved d from rows h [] [] e = tt
choice_moved d from rows h [] (t ∷ ts) e = cc
choice_moved d from rows h (i ∷ is) [] e = cc
choice_moved d from rows h (i ∷ is) (t ∷ ts) e =
    let first : slice_get from i ≡ Some t = cc in
    let later : map (slice_get from) is ≡ map Some ts = cc in
    let row = AllZip-at (λ t row. Contains (rows_of d t) row) from rows i t h first in
    let is_row : row.0 ≡ row_at rows i = sym (ap (λ o. unwrap_or o []) row.1) in
    (subst (λ r. Contains (rows_of d t) r) is_row row.2, choice_moved d from rows h is ts later)

choice_length : (d : RowSet) (from : List ℕ) (rows : List (List Value)) → IsChoice d from rows → length rows ≡ length from
choice_length d [] [] h = refl
choice_length d [] (r ∷ rows) h = absurd h
choice_length d (t ∷ from) [] h = absurd h
choice_length d (t ∷ from) (r ∷ rows) h = ap suc (choice_length d from rows h.1)

row_there : (rows : List (List Value)) (i : ℕ) → i < length rows → slice_get rows i ≡ Some (row_at rows i)
row_there rows i below =
    elim (slice_get_cases rows i).1 [
      | inl (x, w, is, e) ↦ rw is refl
      | inr (past, none) ↦ absurd (omega arith)
    ]

same_lists : {X : Type 0} (xs ys : List X) → ((i : ℕ) → slice_get xs i ≡ slice_get ys i) → xs ≡ ys
same_lists [] [] f = refl
same_lists [] (y ∷ ys) f = let e : None ≡ Some y = f 0 in cc
same_lists (x ∷ xs) [] f = let e : Some x ≡ None = f 0 in cc
same_lists (x ∷ xs) (y ∷ ys) f =
    let first : Some x ≡ Some y = f 0 in
    let later : xs ≡ ys = same_lists xs ys (λ i. f (suc i)) in
    cc

paired_within : (from to from' : List ℕ) → map (slice_get from) to ≡ map Some from' → (p j : ℕ) → slice_get to p ≡ Some j → (t : ℕ) × (slice_get from j ≡ Some t) × (slice_get from' p ≡ Some t)
paired_within from [] from' e p j h = cc
paired_within from (i ∷ is) [] e p j h = cc
paired_within from (i ∷ is) (t ∷ ts) e zero j h = (t, (let k : i ≡ j = cc in rw (sym k) cc), refl)
paired_within from (i ∷ is) (t ∷ ts) e (suc p) j h = paired_within from is ts (cc) p j h

below_or_past : (n j : ℕ) → (j < n) ⊎ (n ≤ j)
below_or_past zero j = inr (omega arith)
below_or_past (suc n) zero = inl (omega arith)
below_or_past (suc n) (suc j) = elim (below_or_past n j) [ inl h ↦ inl (omega arith) | inr h ↦ inr (omega arith) ]

-- each place's row in one turn is that of its number in the other
pub record Placed (back : List ℕ) (rows others : List (List Value)) : Type 0 where
  pub row : (j : ℕ) → slice_get others (unwrap_or (slice_get back j) j) ≡ slice_get rows j

module _ (part : Part) (to back : List ℕ) (turn : IsTurn (length part.from) to back) where
  abbrev n : ℕ
  n = length part.from

  -- beyond the places there is no row in either turn
  past : (rows others : List (List Value)) → length rows ≡ n → length others ≡ n → (j : ℕ) → n ≤ j → slice_get others (unwrap_or (slice_get back j) j) ≡ slice_get rows j
  past rows others a b j h =
      let none : slice_get back j ≡ None = slice_get_past back j (omega (arith, turn.back_long, h)) in
      ap (λ o. slice_get others (unwrap_or o j)) none ∙ (slice_get_past others j (omega (arith, b, h)) ∙ sym (slice_get_past rows j (omega (arith, a, h))))

  placed_there : (rows : List (List Value)) → length rows ≡ n → Placed back rows (rows_at rows to)
  placed_there rows long = record {
    row = λ j. elim (below_or_past n j) [
      | inl below ↦
          let k = turn.leads j below in
          ap (λ o. slice_get (rows_at rows to) (unwrap_or o j)) k.1
          ∙ (slice_get-map (row_at rows) to k.0 ∙ (ap (option_map (row_at rows)) k.2 ∙ sym (row_there rows j (omega (arith, long, below)))))
      | inr h ↦ past rows (rows_at rows to) long (length-map to (row_at rows) ∙ turn.to_long) j h
    ];
  }

  placed_back : (others : List (List Value)) → length others ≡ n → Placed back (rows_at others back) others
  placed_back others long = record {
    row = λ j. elim (below_or_past n j) [
      | inl below ↦
          let k = turn.leads j below in
          let within : k.0 < length others = omega (arith, long, turn.to_long, slice_get_within to k.0 j k.2) in
          ap (λ o. slice_get others (unwrap_or o j)) k.1
          ∙ (row_there others k.0 within ∙ sym (slice_get-map (row_at others) back j ∙ ap (option_map (row_at others)) k.1))
      | inr h ↦ past (rows_at others back) others (length-map back (row_at others) ∙ turn.back_long) long j h
    ];
  }

  module _ (other : Part) (is : TurnedBy part to back other) where
    tables_back : map (slice_get other.from) back ≡ map Some part.from
    tables_back =
        same_lists (map (slice_get other.from) back) (map Some part.from)
        (λ j.
        slice_get-map (slice_get other.from) back j
        ∙ elim (below_or_past n j) as (λ _. option_map (slice_get other.from) (slice_get back j) ≡ slice_get (map Some part.from) j) [
          | inl below ↦
              let k = turn.leads j below in
              let w = paired_within part.from to other.from is.tables k.0 j k.2 in
              ap (option_map (slice_get other.from)) k.1 ∙ (ap Some w.2 ∙ sym (slice_get-map Some part.from j ∙ ap (option_map Some) w.1))
          | inr h ↦
              ap (option_map (slice_get other.from)) (slice_get_past back j (omega (arith, turn.back_long, h)))
              ∙ sym (slice_get-map Some part.from j ∙ ap (option_map Some) (slice_get_past part.from j h))
        ])

    other_long : length other.from ≡ n
    other_long = sym (length-map other.from Some) ∙ (ap length (sym is.tables) ∙ (length-map to (slice_get part.from) ∙ turn.to_long))

    module _ (c : Context) (rows others : List (List Value)) (placed : Placed back rows others) where
      value_renamed : (x : Operand) → value_of c others (rename back x) ≡ value_of c rows x
      value_renamed (Col j k) = ap (option_and_then (λ row. slice_get row k)) (placed.row j)
      value_renamed (Val v) = refl
      value_renamed (Param m) = refl
      value_renamed (Var m) = refl

      holds_there : (a : Atom) → Holds c rows a → Holds c others (rename_atom back a)
      holds_there a h = record {
        left = h.left;
        right = h.right;
        left_is = value_renamed a.left ∙ h.left_is;
        right_is = value_renamed a.right ∙ h.right_is;
        compared = h.compared;
      }

      holds_here : (a : Atom) → Holds c others (rename_atom back a) → Holds c rows a
      holds_here a h = record {
        left = h.left;
        right = h.right;
        left_is = sym (value_renamed a.left) ∙ h.left_is;
        right_is = sym (value_renamed a.right) ∙ h.right_is;
        compared = h.compared;
      }

      values_renamed : (xs : List Operand) → map (value_of c others) (map (rename back) xs) ≡ map (value_of c rows) xs
      values_renamed [] = refl
      values_renamed (x ∷ xs) = both (value_renamed x) (values_renamed xs)
        where
          both : {v w : Option Value} {vs ws : List (Option Value)} → v ≡ w → vs ≡ ws → v ∷ vs ≡ w ∷ ws
          both e f = cc

      gives_there : (r : List Value) → Gives c rows part r → Gives c others other r
      gives_there r g = record {
        conds = λ k d below.
            let a = Contains-in_map (rename_atom back) part.conds (get_or other.conds k d) (subst (λ xs. Contains xs (get_or other.conds k d)) is.conds (Contains-get_or other.conds k d below)) in
            subst (Holds c others) a.2 (holds_there a.0 (All-contains (Holds c rows) part.conds a.0 g.conds a.1));
        head = ap (map (value_of c others)) is.head ∙ (values_renamed part.head ∙ g.head);
      }

      gives_here : (r : List Value) → Gives c others other r → Gives c rows part r
      gives_here r g = record {
        conds = λ k d below.
            let a = get_or part.conds k d in
            let there = subst (λ xs. Contains xs (rename_atom back a)) (sym is.conds) (Contains-of_map (rename_atom back) part.conds a (Contains-get_or part.conds k d below)) in
            holds_here a (All-contains (Holds c others) other.conds (rename_atom back a) g.conds there);
        head = sym (values_renamed part.head) ∙ (sym (ap (map (value_of c others)) is.head) ∙ g.head);
      }

    pub turned_same : SameRows part other
    turned_same = record {
      there = λ c d r (rows, choice, g).
          let long = choice_length d part.from rows choice in
          (rows_at rows to, choice_moved d part.from rows choice to other.from is.tables, gives_there c rows (rows_at rows to) (placed_there rows long) r g);
      back = λ c d r (others, choice, g).
          let long = choice_length d other.from others choice ∙ other_long in
          (rows_at others back, choice_moved d other.from others choice back part.from tables_back, gives_here c (rows_at others back) others (placed_back others long) r g);
    }

pub same_part : (part other : Part) → other ≡ part → SameRows part other
same_part part other e = record { there = λ c d r h. subst (λ p. InPart c d p r) (sym e) h; back = λ c d r h. subst (λ p. InPart c d p r) e h }

-- part by part
abbrev pub SameSoFar : List Part → List Part → Type 0
SameSoFar [] [] = ⊤
SameSoFar [] (other ∷ others) = ⊥
SameSoFar (part ∷ parts) [] = ⊥
SameSoFar (part ∷ parts) (other ∷ others) = SameRows part other × SameSoFar parts others

same_push : (parts others : List Part) (part other : Part) → SameSoFar parts others → SameRows part other → SameSoFar (parts ++ part ∷ []) (others ++ other ∷ [])
same_push [] [] part other h s = (s, tt)
same_push [] (o ∷ others) part other h s = absurd h
same_push (p ∷ parts) [] part other h s = absurd h
same_push (p ∷ parts) (o ∷ others) part other h s = (h.0, same_push parts others part other h.1 s)

pub same_more : (parts : List Part) (i : ℕ) (part : Part) → i < length parts → part ≡ get_or parts i part → (others new : List Part) (other : Part) → new ≡ others ++ other ∷ [] → SameSoFar (take i parts) others → SameRows part other → SameSoFar (take (i + 1) parts) new
same_more parts i part below at others new other e h s =
    let one_more : take (i + 1) parts ≡ take i parts ++ part ∷ [] = subst (λ q. take (i + 1) parts ≡ take i parts ++ q ∷ []) (sym at) (take_more parts i part below) in
    subst (λ ps. SameSoFar ps new) (sym one_more) (subst (SameSoFar (take i parts ++ part ∷ [])) (sym e) (same_push (take i parts) others part other h s))

same_there : (parts others : List Part) → SameSoFar parts others → (part : Part) → Contains parts part → (other : Part) × Contains others other × SameRows part other
same_there [] others h part k = absurd (Contains-nil part k)
same_there (p ∷ parts) [] h part k = absurd h
same_there (p ∷ parts) (o ∷ others) h part k =
    elim (cons_cases p parts part k) [
      | inl is ↦ (o, Contains-here o others, subst (λ x. SameRows x o) is h.0)
      | inr later ↦ (let r = same_there parts others h.1 part later in (r.0, Contains-later o others r.0 r.1, r.2))
    ]

same_here : (parts others : List Part) → SameSoFar parts others → (other : Part) → Contains others other → (part : Part) × Contains parts part × SameRows part other
same_here [] [] h other k = absurd (Contains-nil other k)
same_here [] (o ∷ others) h other k = absurd h
same_here (p ∷ parts) [] h other k = absurd h
same_here (p ∷ parts) (o ∷ others) h other k =
    elim (cons_cases o others other k) [
      | inl is ↦ (p, Contains-here p parts, subst (SameRows p) is h.0)
      | inr later ↦ (let r = same_here parts others h.1 other later in (r.0, Contains-later p parts r.0 r.1, r.2))
    ]

pub same_answers : (q other : Query) (parts others : List Part) (n : ℕ) → parts ≡ q.parts → other.parts ≡ others → length parts ≤ n → SameSoFar (take n parts) others → SameAnswers q other
same_answers q other parts others n e f all h =
    let same = subst (SameSoFar q.parts) (sym f) (subst (λ ps. SameSoFar ps others) (take_all n parts all ∙ e) h) in
    record {
      there = λ c d r (part, there, in_part). let s = same_there q.parts other.parts same part there in (s.0, s.1, s.2.there c d r in_part);
      back = λ c d r (part, there, in_part). let s = same_here q.parts other.parts same part there in (s.0, s.1, s.2.back c d r in_part);
    }

pub answer_as : (q other : Query) (c : Context) (d : RowSet) (rows : List (List Value)) → SameAnswers q other → IsAnswer other c d rows → IsAnswer q c d rows
answer_as q other c d rows same h = record {
  rising = h.rising;
  sound = λ r k. same.back c d r (h.sound r k);
  complete = λ r k. h.complete r (same.there c d r k);
}

-- the way back from the first n places
pub record LeadsBack (to back : List ℕ) (n : ℕ) : Type 0 where
  pub leads : (place : ℕ) → place < n → (position : ℕ) × (slice_get back place ≡ Some position) × (slice_get to position ≡ Some place)

pub no_leads : (to back : List ℕ) → LeadsBack to back 0
no_leads to back = record { leads = λ place h. absurd (omega arith) }

pub leads_more : (to back : List ℕ) (n position : ℕ) → LeadsBack to back n → slice_get back n ≡ Some position → slice_get to position ≡ Some n → LeadsBack to back (n + 1)
leads_more to back n position h e f = record {
  leads = λ place below. elim (earlier_or_here place n below) [
    | inl early ↦ h.leads place early
    | inr here ↦ (position, ap (slice_get back) here ∙ e, f ∙ ap Some (sym here))
  ];
}

pub leads_read : (to back : List ℕ) (n d : ℕ) → n < length back → LeadsBack to back n → slice_get to (get_or back n d) ≡ Some n → LeadsBack to back (n + 1)
leads_read to back n d below h e = leads_more to back n (get_or back n d) h (slice_get-get_or back n d below) e

pub turn_is : (n m : ℕ) (to back : List ℕ) → length to ≡ n → length back ≡ n → n ≤ m → LeadsBack to back m → IsTurn n to back
turn_is n m to back e f all h = record { to_long = e; back_long = f; leads = λ place below. h.leads place (omega arith) }

-- the tables of one place more
pub tables_more : (from to : List ℕ) (i place table : ℕ) → i < length to → place ≡ get_or to i place → slice_get from place ≡ Some table → (tables new : List ℕ) → new ≡ tables ++ table ∷ [] → map (slice_get from) (take i to) ≡ map Some tables → map (slice_get from) (take (i + 1) to) ≡ map Some new
tables_more from to i place table below at there tables new e h =
    let one_more : take (i + 1) to ≡ take i to ++ place ∷ [] = subst (λ q. take (i + 1) to ≡ take i to ++ q ∷ []) (sym at) (take_more to i place below) in
    ap (map (slice_get from)) one_more
    ∙ (map-append (slice_get from) (take i to) (place ∷ [])
    ∙ (both (map (slice_get from) (take i to)) (map Some tables) (slice_get from place) (Some table) h there
    ∙ sym (ap (map Some) e ∙ map-append Some tables (table ∷ []))))
  where
    both : {X : Type 0} (xs ys : List X) (x y : X) → xs ≡ ys → x ≡ y → xs ++ x ∷ [] ≡ ys ++ y ∷ []
    both xs ys x y a b = cc

pub tables_read : (from to : List ℕ) (i d table : ℕ) → i < length to → slice_get from (get_or to i d) ≡ Some table → (tables new : List ℕ) → new ≡ tables ++ table ∷ [] → map (slice_get from) (take i to) ≡ map Some tables → map (slice_get from) (take (i + 1) to) ≡ map Some new
tables_read from to i d table below there tables new e h =
    tables_more from to i (get_or to i d) table below (sym (get_or_from_slice_get to i (get_or to i d) (get_or to i d) (slice_get-get_or to i d below))) there tables new e h

-- the part in the turn that was tested
pub turned_tested : (part other : Part) (to back tested_to tested_back used_to used_back : List ℕ) (n : ℕ) → n ≡ length part.from → tested_to ≡ to → tested_back ≡ back → used_to ≡ to → used_back ≡ back → IsTurn n tested_to tested_back → TurnedBy part used_to used_back other → SameRows part other
turned_tested part other to back tested_to tested_back used_to used_back n e a b f g turn is =
    turned_same part to back (subst (λ m. IsTurn m to back) e (subst (λ xs. IsTurn n xs back) a (subst (IsTurn n tested_to) b turn))) other
    (subst (λ xs. TurnedBy part xs back other) f (subst (λ xs. TurnedBy part used_to xs other) g is))
