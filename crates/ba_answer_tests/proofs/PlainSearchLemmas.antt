-- What each step of the search finds.
use Rattle.std.proofs.Common.{◌≡◌, ℕ, zero, suc, ◌+◌, ◌<◌, ◌≤◌, ◌⊎◌, inl, inr, List, [], ◌∷◌, ◌++◌, length, get_or, take, map, refl, sym, ap, ◌∙◌, subst, append_assoc, append-nil, arith}
use Rattle.std.proofs.lemmas.List.{take_more, take_all, map-append}
use Rattle.std.proofs.lemmas.List.Elements.{Contains-push, Contains-push_cases, Contains-append_left}
use Rattle.std.specs.List.{All, Contains}
use Rattle.std.specs.Prelude.{Some}
use Rattle.ba_model.proofs.ElementLemmas.{Contains-nil}
use Rattle.ba_model.specs.Meaning.{Holds, Gives, InAnswer, InPart, IsChoice, rows_of, value_of}
use Rattle.ba_model.specs.declared.policy.Context.{Context}
use Rattle.ba_model.specs.declared.query.Part.{Part}
use Rattle.ba_model.specs.declared.query.Query.{Query}
use Rattle.ba_model.specs.declared.value.RowSet.{RowSet}
use Rattle.ba_model.specs.declared.value.Value.{Value}
use Rattle.ba_answer_tests.proofs.PlainHeadLemmas.{one_head}
use Rattle.ba_answer_tests.specs.PlainSearch.{Adds, BySome, GivesFrom}

adds_same : {P Q : List Value → Type 0} {old new : List (List Value)} → ((r : List Value) → P r → Q r) → ((r : List Value) → Q r → P r) → Adds P old new → Adds Q old new
adds_same f g h = record {
  kept = h.kept;
  added = λ r q. h.added r (g r q);
  only = λ r k. elim (h.only r k) [ inl before ↦ inl before | inr now ↦ inr (f r now) ];
}

pub adds_none : {P : List Value → Type 0} (old : List (List Value)) → ((r : List Value) → P r → ⊥) → Adds P old old
adds_none old f = record { kept = λ r h. h; added = λ r p. absurd (f r p); only = λ r h. inl h }

module _ {X : Type 0} (P : X → List Value → Type 0) where
  none_by_none : (r : List Value) → BySome P [] r → ⊥
  none_by_none r h = Contains-nil h.0 h.1

  pub adds_start : (old : List (List Value)) → Adds (BySome P []) old old
  adds_start old = adds_none old none_by_none

  -- the element at i, and those before it
  module _ (xs : List X) (i : ℕ) (x : X) (below : i < length xs) (at : x ≡ get_or xs i x) where
    one_more : take (i + 1) xs ≡ take i xs ++ x ∷ []
    one_more = subst (λ q. take (i + 1) xs ≡ take i xs ++ q ∷ []) (sym at) (take_more xs i x below)

    pub some_here : (r : List Value) → P x r → BySome P (take (i + 1) xs) r
    some_here r p = (x, subst (λ ys. Contains ys x) (sym one_more) (Contains-push (take i xs) x), p)

    pub some_before : (r : List Value) → BySome P (take i xs) r → BySome P (take (i + 1) xs) r
    some_before r h = (h.0, subst (λ ys. Contains ys h.0) (sym one_more) (Contains-append_left (take i xs) (x ∷ []) h.0 h.1), h.2)

    pub some_cases : (r : List Value) → BySome P (take (i + 1) xs) r → BySome P (take i xs) r ⊎ P x r
    some_cases r h =
        elim (Contains-push_cases (take i xs) x h.0 (subst (λ ys. Contains ys h.0) one_more h.1)) [
          | inl before ↦ inl (h.0, before, h.2)
          | inr same ↦ inr (subst (λ y. P y r) (sym same) h.2)
        ]

    pub adds_more : (old mid new : List (List Value)) → Adds (BySome P (take i xs)) old mid → Adds (P x) mid new → Adds (BySome P (take (i + 1) xs)) old new
    adds_more old mid new before here = record {
      kept = λ r h. here.kept r (before.kept r h);
      added = λ r h. elim (some_cases r h) [ inl first ↦ here.kept r (before.added r first) | inr last ↦ here.added r last ];
      only = λ r h. elim (here.only r h) [
        | inl first ↦ elim (before.only r first) [ inl old ↦ inl old | inr by ↦ inr (some_before r by) ]
        | inr last ↦ inr (some_here r last)
      ];
    }

-- the part gives r from the chosen rows, this one and one row of each further table
abbrev pub FromRow : Context → RowSet → Part → List ℕ → List (List Value) → List Value → List Value → Type 0
FromRow c d part from chosen row r = GivesFrom c d part from (chosen ++ row ∷ []) r

module _ (c : Context) (d : RowSet) (part : Part) where
  -- no table is left
  pub from_nothing : (chosen : List (List Value)) (r : List Value) → Gives c chosen part r → GivesFrom c d part [] chosen r
  from_nothing chosen r g = ([], tt, subst (λ rows. Gives c rows part r) (sym (append-nil chosen)) g)

  pub gives_last : (chosen : List (List Value)) (r : List Value) → GivesFrom c d part [] chosen r → Gives c chosen part r
  gives_last chosen r (more, is, g) = at more is g
    where
      at : (more : List (List Value)) → IsChoice d [] more → Gives c (chosen ++ more) part r → Gives c chosen part r
      at [] is g = subst (λ rows. Gives c rows part r) (append-nil chosen) g
      at (row ∷ more) is g = absurd is

  pub adds_last : (from : List ℕ) (chosen given old new : List (List Value)) → length from ≡ 0 → given ≡ chosen → Adds (Gives c given part) old new → Adds (GivesFrom c d part from chosen) old new
  adds_last [] chosen given old new e same h =
      adds_same (from_nothing chosen) (gives_last chosen) (subst (λ rows. Adds (Gives c rows part) old new) same h)
  adds_last (table ∷ from) chosen given old new e same h = absurd (omega arith)

  -- a table is left: one of its rows is chosen
  module _ (table : ℕ) (from : List ℕ) (chosen : List (List Value)) where
    abbrev by : List Value → List Value → Type 0
    by = FromRow c d part from chosen

    pub from_row : (r : List Value) → BySome by (rows_of d table) r → GivesFrom c d part (table ∷ from) chosen r
    from_row r (row, is, (more, are, g)) = (row ∷ more, (is, are), subst (λ rows. Gives c rows part r) (append_assoc chosen (row ∷ []) more) g)

    pub row_from : (r : List Value) → GivesFrom c d part (table ∷ from) chosen r → BySome by (rows_of d table) r
    row_from r (rows, is, g) = at rows is g
      where
        at : (rows : List (List Value)) → IsChoice d (table ∷ from) rows → Gives c (chosen ++ rows) part r → BySome by (rows_of d table) r
        at [] is g = absurd is
        at (row ∷ more) is g = (row, is.0, (more, is.1, subst (λ rows. Gives c rows part r) (sym (append_assoc chosen (row ∷ []) more)) g))

    pub adds_rows : (old new : List (List Value)) → Adds (BySome by (rows_of d table)) old new → Adds (GivesFrom c d part (table ∷ from) chosen) old new
    adds_rows old new h = adds_same from_row row_from h

-- the row that the part gives from one row for each place is put at the end
pub adds_head : (c : Context) (chosen : List (List Value)) (part : Part) (old new : List (List Value)) (row : List Value) → new ≡ old ++ row ∷ [] → All (Holds c chosen) part.conds → map (value_of c chosen) part.head ≡ map Some row → Adds (Gives c chosen part) old new
adds_head c chosen part old new row e conds head =
    subst (Adds (Gives c chosen part) old) (sym e)
    (record {
      kept = λ r h. Contains-append_left old (row ∷ []) r h;
      added = λ r g. subst (Contains (old ++ row ∷ [])) (one_head row r (sym head ∙ g.head)) (Contains-push old row);
      only = λ r h. elim (Contains-push_cases old row r h) [
        | inl before ↦ inl before
        | inr same ↦ inr (subst (Gives c chosen part) same (let g : Gives c chosen part row = record { conds = conds; head = head } in g))
      ];
    })

-- one row more is chosen
pub one_chosen : {A : Type 0} (now : A → List Value) (before items all : List A) (x : A) → all ≡ items ++ x ∷ [] → items ≡ before → map now all ≡ map now before ++ now x ∷ []
one_chosen now before items all x e same = ap (map now) (e ∙ ap (λ xs. xs ++ x ∷ []) same) ∙ map-append now before (x ∷ [])

-- the steps of the loop over a table's rows, where deeper are the rows chosen in its turn
module _ (c : Context) (d : RowSet) (part : Part) (from : List ℕ) (chosen deeper rows : List (List Value)) (i : ℕ) (row : List Value) (below : i < length rows) (at : row ≡ get_or rows i row) (e : deeper ≡ chosen ++ row ∷ []) where
  pub gathers_more : (old mid new : List (List Value)) → Adds (BySome (FromRow c d part from chosen) (take i rows)) old mid → Adds (GivesFrom c d part from deeper) mid new → Adds (BySome (FromRow c d part from chosen) (take (i + 1) rows)) old new
  gathers_more old mid new before here =
      adds_more (FromRow c d part from chosen) rows i row below at old mid new before (subst (λ rs. Adds (GivesFrom c d part from rs) mid new) e here)

-- all rows of the first table that is left
module _ (c : Context) (d : RowSet) (part : Part) (whole : List ℕ) (table : ℕ) (from : List ℕ) (chosen rows : List (List Value)) (split : whole ≡ table ∷ from) (are : rows ≡ rows_of d table) where
  pub gathers_all : (n : ℕ) (old new : List (List Value)) → length rows ≤ n → Adds (BySome (FromRow c d part from chosen) (take n rows)) old new → Adds (GivesFrom c d part whole chosen) old new
  gathers_all n old new all h =
      subst (λ w. Adds (GivesFrom c d part w chosen) old new) (sym split)
      (adds_rows c d part table from chosen old new (subst (λ rs. Adds (BySome (FromRow c d part from chosen) rs) old new) (take_all n rows all ∙ are) h))

-- all parts of a query
module _ (q : Query) (c : Context) (d : RowSet) (parts : List Part) (are : parts ≡ q.parts) where
  pub parts_all : (n : ℕ) (old new : List (List Value)) → length parts ≤ n → Adds (BySome (InPart c d) (take n parts)) old new → Adds (InAnswer q c d) old new
  parts_all n old new all h = subst (λ ps. Adds (BySome (InPart c d) ps) old new) (take_all n parts all ∙ are) h

-- the steps of the loop over the parts
module _ (c : Context) (d : RowSet) (parts : List Part) (i : ℕ) (part : Part) (below : i < length parts) (at : part ≡ get_or parts i part) (from : List ℕ) (whole : from ≡ part.from) (chosen : List (List Value)) (none : chosen ≡ []) where
  in_part : (r : List Value) → GivesFrom c d part from chosen r ≡ InPart c d part r
  in_part r = ap (λ f. GivesFrom c d part f chosen r) whole ∙ ap (λ rows. GivesFrom c d part part.from rows r) none

  pub gathers_part : (old mid new : List (List Value)) → Adds (BySome (InPart c d) (take i parts)) old mid → Adds (GivesFrom c d part from chosen) mid new → Adds (BySome (InPart c d) (take (i + 1) parts)) old new
  gathers_part old mid new before here =
      adds_more (InPart c d) parts i part below at old mid new before
      (adds_same (λ r h. subst (λ T. T) (in_part r) h) (λ r h. subst (λ T. T) (sym (in_part r)) h) here)
