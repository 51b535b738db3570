-- What the search finds by the candidates of a place.
use Rattle.std.proofs.Common.{◌≡◌, Bool, ℕ, zero, suc, ◌+◌, ◌<◌, ◌≤◌, inl, inr, List, [], ◌∷◌, ◌++◌, length, get_or, take, map, Option, Some, slice_get, refl, sym, ap, ◌∙◌, subst, arith}
use Rattle.std.proofs.lemmas.List.{length-append, map-append, take_all, take_more}
use Rattle.std.proofs.lemmas.List.Elements.{All-contains}
use Rattle.std.proofs.lemmas.Option.{slice_get_within, get_or_from_slice_get, slice_get_read}
use Rattle.std.specs.List.{Contains}
use Rattle.std.specs.Prelude.{option_and_then}
use Rattle.ba_model.specs.Meaning.{Holds, rows_of, value_of}
use Rattle.ba_model.specs.declared.policy.Context.{Context}
use Rattle.ba_model.specs.declared.query.Atom.{Atom}
use Rattle.ba_model.specs.declared.query.Operand.{Operand}
use Rattle.ba_model.specs.declared.query.Operand.TheVariants.{Col, Val, Param, Var}
use Rattle.ba_model.specs.declared.query.Part.{Part}
use Rattle.ba_model.specs.declared.value.RowSet.{RowSet}
use Rattle.ba_model.specs.declared.value.Value.{Value}
use Rattle.ba_eval.proofs.SearchLemmas.{FromRow, adds_more, adds_same, from_row, row_from}
use Rattle.ba_eval.specs.Index.{AreCandidates, ArePlaces, IsSettledAt, IsOutside, IsPlace, MeetsSettled, StandsAt, StandsWithin}
use Rattle.ba_eval.specs.Search.{Adds, BySome, GivesFrom}
use Rattle.ba_eval.specs.declared.place.Place.{Place}

-- an atom that speaks of the first places alone holds where it holds of them

get_front : {X : Type 0} (xs ys : List X) (i : ℕ) → i < length xs → slice_get (xs ++ ys) i ≡ slice_get xs i
get_front [] ys i h = absurd (omega arith)
get_front (x ∷ xs) ys zero h = refl
get_front (x ∷ xs) ys (suc i) h = get_front xs ys i (omega arith)

value_front : (c : Context) (rows more : List (List Value)) (x : Operand) → StandsWithin (length rows) x → value_of c (rows ++ more) x ≡ value_of c rows x
value_front c rows more (Col p k) h = ap (option_and_then (λ row. slice_get row k)) (get_front rows more p h)
value_front c rows more (Val v) h = refl
value_front c rows more (Param n) h = refl
value_front c rows more (Var n) h = refl

pub holds_front : (c : Context) (rows more : List (List Value)) (atom : Atom) → StandsWithin (length rows) atom.left → StandsWithin (length rows) atom.right → Holds c (rows ++ more) atom → Holds c rows atom
holds_front c rows more atom l r h = record {
  left = h.left;
  right = h.right;
  left_is = sym (value_front c rows more atom.left l) ∙ h.left_is;
  right_is = sym (value_front c rows more atom.right r) ∙ h.right_is;
  compared = h.compared;
}

pub holds_back : (c : Context) (rows more : List (List Value)) (atom : Atom) → StandsWithin (length rows) atom.left → StandsWithin (length rows) atom.right → Holds c rows atom → Holds c (rows ++ more) atom
holds_back c rows more atom l r h = record {
  left = h.left;
  right = h.right;
  left_is = value_front c rows more atom.left l ∙ h.left_is;
  right_is = value_front c rows more atom.right r ∙ h.right_is;
  compared = h.compared;
}

at_within : (n : ℕ) (x : Operand) → StandsAt n x → StandsWithin (n + 1) x
at_within n (Col p k) h = omega arith
at_within n (Val v) h = tt
at_within n (Param m) h = tt
at_within n (Var m) h = tt

outside_within : (n : ℕ) (x : Operand) → IsOutside n x → StandsWithin (n + 1) x
outside_within n (Col p k) h = omega arith
outside_within n (Val v) h = tt
outside_within n (Param m) h = tt
outside_within n (Var m) h = tt

own_within : (n k : ℕ) (x : Operand) → x ≡ Col n k → StandsWithin (n + 1) x
own_within n k x e = subst (StandsWithin (n + 1)) (sym e) (let h : n < n + 1 = omega arith in h)

pub due_left : (n : ℕ) (atom : Atom) → IsSettledAt n atom → StandsWithin (n + 1) atom.left
due_left n atom (inl w) = at_within n atom.left w.left
due_left n atom (inr (tie, is)) =
    elim is.sides [ inl t ↦ own_within n tie.column atom.left t.own_is | inr t ↦ outside_within n atom.left t.outside ]

pub due_right : (n : ℕ) (atom : Atom) → IsSettledAt n atom → StandsWithin (n + 1) atom.right
due_right n atom (inl w) = at_within n atom.right w.right
due_right n atom (inr (tie, is)) =
    elim is.sides [ inl t ↦ outside_within n atom.right t.outside | inr t ↦ own_within n tie.column atom.right t.own_is ]

one_longer : {X : Type 0} (xs : List X) (x : X) → length (xs ++ x ∷ []) ≡ length xs + 1
one_longer xs x = length-append xs (x ∷ [])

module _ (c : Context) (d : RowSet) (part : Part) (from : List ℕ) (chosen : List (List Value)) where
  -- a row from which the part gives something makes true what it settles
  pub due_of_given : (row r : List Value) → FromRow c d part from chosen row r → MeetsSettled c part chosen row
  due_of_given row r (more, are, g) atom there due =
      let beside = chosen ++ row ∷ [] in
      holds_front c beside more atom
      (subst (λ n. StandsWithin n atom.left) (sym (one_longer chosen row)) (due_left (length chosen) atom due))
      (subst (λ n. StandsWithin n atom.right) (sym (one_longer chosen row)) (due_right (length chosen) atom due))
      (All-contains (Holds c (beside ++ more)) part.conds atom g.conds there)

  -- the part gives r from the chosen rows, the row with this number and one row of each further place
  abbrev pub FromNumber : List (List Value) → ℕ → List Value → Type 0
  FromNumber rows number r = (row : List Value) × (slice_get rows number ≡ Some row) × FromRow c d part from chosen row r

  some_row : {X : Type 0} (o : Option X) (x y : X) → o ≡ Some x → o ≡ Some y → x ≡ y
  some_row o x y a b = let e : Some x ≡ Some y = sym a ∙ b in cc

  pub number_found : (rows deeper mid new : List (List Value)) (number : ℕ) (row : List Value) → slice_get rows number ≡ Some row → deeper ≡ chosen ++ row ∷ [] → Adds (GivesFrom c d part from deeper) mid new → Adds (FromNumber rows number) mid new
  number_found rows deeper mid new number row at e h =
      adds_same
      (λ r g. (row, at, subst (λ rs. GivesFrom c d part from rs r) e g))
      (λ r f. subst (λ rs. GivesFrom c d part from rs r) (ap (λ x. chosen ++ x ∷ []) (some_row (slice_get rows number) f.0 row f.1 at) ∙ sym e) f.2)
      h

  -- the loop over the numbers
  pub numbers_more : (rows : List (List Value)) (numbers : List ℕ) (i : ℕ) (number : ℕ) → i < length numbers → number ≡ get_or numbers i number → (deeper old mid new : List (List Value)) (row : List Value) → slice_get rows number ≡ Some row → deeper ≡ chosen ++ row ∷ [] → Adds (BySome (FromNumber rows) (take i numbers)) old mid → Adds (GivesFrom c d part from deeper) mid new → Adds (BySome (FromNumber rows) (take (i + 1) numbers)) old new
  numbers_more rows numbers i number below at deeper old mid new row row_is e before here =
      adds_more (FromNumber rows) numbers i number below at old mid new before (number_found rows deeper mid new number row row_is e here)

  number_of_row : (rows : List (List Value)) (row : List Value) → Contains rows row → (k : ℕ) × (slice_get rows k ≡ Some row)
  number_of_row rows row (k, below, at) = (k, slice_get_read rows (length rows) k row refl below (sym at))

  row_in : (rows : List (List Value)) (k : ℕ) (row : List Value) → slice_get rows k ≡ Some row → Contains rows row
  row_in rows k row e = (k, slice_get_within rows k row e, get_or_from_slice_get rows k row row e)

  module _ (bounded : Bool) (table : ℕ) (numbers : List ℕ) (are : AreCandidates bounded c d part table chosen numbers) where
    from_number : (r : List Value) → BySome (FromNumber (rows_of d table)) numbers r → GivesFrom c d part (table ∷ from) chosen r
    from_number r (number, there, (row, at, g)) = from_row c d part table from chosen r (row, row_in (rows_of d table) number row at, g)

    number_from : (r : List Value) → GivesFrom c d part (table ∷ from) chosen r → BySome (FromNumber (rows_of d table)) numbers r
    number_from r h =
        let by = row_from c d part table from chosen r h in
        let k = number_of_row (rows_of d table) by.0 by.1 in
        (k.0, are.complete k.0 by.0 k.1 (due_of_given by.0 r by.2), (by.0, k.1, by.2))

    pub numbers_all : (rows : List (List Value)) (n : ℕ) (old new : List (List Value)) → rows ≡ rows_of d table → length numbers ≤ n → Adds (BySome (FromNumber rows) (take n numbers)) old new → Adds (GivesFrom c d part (table ∷ from) chosen) old new
    numbers_all rows n old new e all h =
        adds_same from_number number_from
        (subst (λ es. Adds (BySome (FromNumber (rows_of d table)) es) old new) (take_all n numbers all)
        (subst (λ rs. Adds (BySome (FromNumber rs) (take n numbers)) old new) e h))

-- an item of a list whatever stands for one that isn't there
pub item_of : (xs : List ℕ) (i n : ℕ) → i < length xs → n ≡ get_or xs i 0 → n ≡ get_or xs i n
item_of [] i n h e = absurd (omega arith)
item_of (x ∷ xs) zero n h e = e
item_of (x ∷ xs) (suc i) n h e = item_of xs i n (omega arith) e

abbrev pub table_of : Place → ℕ
table_of place = place.table

pub no_tables : (places : List Place) → length places ≡ 0 → length (map table_of places) ≡ 0
no_tables [] e = refl
no_tables (place ∷ places) e = absurd (omega arith)

-- the first of the places, over the chosen rows
module _ (bounded : Bool) (c : Context) (d : RowSet) (part : Part) (chosen : List (List Value)) (places rest : List Place) (place : Place) (split : places ≡ place ∷ rest) (are : ArePlaces bounded c d part (length chosen) places) (numbers : List ℕ) (candidates : AreCandidates bounded c d part place.table chosen numbers) where
  first : IsPlace bounded c d part (length chosen) place
  first = (subst (ArePlaces bounded c d part (length chosen)) split are).0

  pub row_there : (i : ℕ) (number : ℕ) → i < length numbers → number ≡ get_or numbers i number → number < length place.rows.now
  row_there i number below at =
      let s = candidates.sound number (i, below, sym at) in
      slice_get_within place.rows.now number s.0 (subst (λ rows. slice_get rows number ≡ Some s.0) (sym first.rows_are) s.1)

  pub gathers_all : (n : ℕ) (old new : List (List Value)) → length numbers ≤ n → Adds (BySome (FromNumber c d part (map table_of rest) chosen place.rows.now) (take n numbers)) old new → Adds (GivesFrom c d part (map table_of places) chosen) old new
  gathers_all n old new all h =
      subst (λ ps. Adds (GivesFrom c d part (map table_of ps) chosen) old new) (sym split)
      (numbers_all c d part (map table_of rest) chosen bounded place.table numbers candidates place.rows.now n old new first.rows_are all h)

-- one place more

pub places_push : (bounded : Bool) (c : Context) (d : RowSet) (part : Part) (at : ℕ) (places : List Place) (place : Place) → ArePlaces bounded c d part at places → IsPlace bounded c d part (at + length places) place → ArePlaces bounded c d part at (places ++ place ∷ [])
places_push bounded c d part at [] place h is = (subst (λ n. IsPlace bounded c d part n place) (omega arith) is, tt)
places_push bounded c d part at (first ∷ places) place h is =
    (h.0, places_push bounded c d part (at + 1) places place h.1 (subst (λ n. IsPlace bounded c d part n place) (omega arith) is))

pub tables_more : (tables : List ℕ) (i : ℕ) → i < length tables → (places new : List Place) (place : Place) → new ≡ places ++ place ∷ [] → map table_of places ≡ take i tables → place.table ≡ get_or tables i 0 → map table_of new ≡ take (i + 1) tables
tables_more tables i below places new place is before e =
    let left : map table_of (places ++ place ∷ []) ≡ map table_of places ++ place.table ∷ [] = map-append table_of places (place ∷ []) in
    let right : take (i + 1) tables ≡ take i tables ++ get_or tables i 0 ∷ [] = take_more tables i 0 below in
    cc

pub more_places : (bounded : Bool) (c : Context) (d : RowSet) (part : Part) (places new : List Place) (place : Place) → new ≡ places ++ place ∷ [] → ArePlaces bounded c d part 0 places → IsPlace bounded c d part (length places) place → ArePlaces bounded c d part 0 new
more_places bounded c d part places new place e h is =
    subst (ArePlaces bounded c d part 0) (sym e) (places_push bounded c d part 0 places place h (subst (λ n. IsPlace bounded c d part n place) (omega arith) is))
