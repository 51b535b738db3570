-- What a row tells of a part that gives it, and under which parts it is recorded.
use Rattle.std.proofs.Common.{◌≡◌, ◌∙◌, ℕ, zero, suc, Bool, true, false, ◌&&◌, ◌==◌, cond, inl, inr, List, [], ◌∷◌, map, refl, sym, ap₂, subst, arith}
use Rattle.std.proofs.lemmas.Bool.Decides.{nat_tests}
use Rattle.std.proofs.lemmas.List.Elements.{All-contains, All-weaker}
use Rattle.std.specs.List.{AllZip, Contains}
use Rattle.std.specs.Prelude.{Option, Some, None, slice_get, option_and_then, unwrap_or}
use Rattle.ba_model.proofs.ElementLemmas.{Contains-cases, Contains-head, Contains-later, Contains-nil}
use Rattle.ba_model.specs.Conform.{Conforms, IsOfColumn, RowFits, TableConforms}
use Rattle.ba_model.specs.Meaning.{Compares, Holds, InPart, IsChoice, rows_of, value_of}
use Rattle.ba_model.specs.declared.policy.Context.{Context}
use Rattle.ba_model.specs.declared.query.Atom.{Atom}
use Rattle.ba_model.specs.declared.query.Operand.{Operand}
use Rattle.ba_model.specs.declared.query.Operand.TheVariants.{Col, Val, Param, Var}
use Rattle.ba_model.specs.declared.query.Part.{Part}
use Rattle.ba_model.specs.declared.schema.Column.{Column}
use Rattle.ba_model.specs.declared.schema.Schema.{Schema}
use Rattle.ba_model.specs.declared.schema.Table.{Table}
use Rattle.ba_model.specs.declared.value.RowSet.{RowSet}
use Rattle.ba_model.specs.declared.value.Value.{Value}
use Rattle.ba_parts.proofs.UnionLemmas.{from_alone}
use Rattle.ba_parts.specs.Laws.{GivenCanBe, RowIsOfItsParts, RowIsRecorded}
use Rattle.ba_parts.specs.Parts.{CanBeOf, Chosen, IsHeadOf, MayHold, MayStand, column_at, column_in, is_column, told_by}
use Rattle.ba_parts.specs.Parts.Chosen.{nothing, taken, left_out}

-- ---- operands

numbers_equal : (n m : ℕ) → (n == m) ≡ true → n ≡ m
numbers_equal n m e = grind (arith, nat_tests)

equal_numbers : (n : ℕ) → (n == n) ≡ true
equal_numbers n = grind (arith, nat_tests)

and_left : (a b : Bool) → (a && b) ≡ true → a ≡ true
and_left true b e = refl
and_left false b e = cc

and_right : (a b : Bool) → (a && b) ≡ true → b ≡ true
and_right true b e = e
and_right false b e = cc

and_both : (a b : Bool) → a ≡ true → b ≡ true → (a && b) ≡ true
and_both a b p q = rw (p, q) refl

column_is : (place column : ℕ) (x : Operand) → is_column place column x ≡ true → x ≡ Col place column
column_is place column (Col p k) e = ap₂ Col (numbers_equal p place (and_left (p == place) (k == column) e)) (numbers_equal k column (and_right (p == place) (k == column) e))
column_is place column (Val v) e = cc
column_is place column (Param n) e = cc
column_is place column (Var n) e = cc

column_itself : (place column : ℕ) → is_column place column (Col place column) ≡ true
column_itself place column = and_both (place == place) (column == column) (equal_numbers place) (equal_numbers column)

-- ---- what is told of a column

tail_is : {X : Type 0} (a b : X) (xs ys : List X) → a ∷ xs ≡ b ∷ ys → xs ≡ ys
tail_is a b xs ys e = cc

head_is : {X : Type 0} (a b : X) (xs ys : List X) → a ∷ xs ≡ b ∷ ys → a ≡ b
head_is a b xs ys e = cc

some_is : {X : Type 0} (a b : X) → Some a ≡ Some b → a ≡ b
some_is a b e = cc

found_here : (w : Value) (rest : Option Value) (b : Bool) → b ≡ true → cond b (Some w) rest ≡ Some w
found_here w rest true e = refl
found_here w rest false e = cc

found_later : (w : Value) (rest : Option Value) (b : Bool) → (v : Value) × (rest ≡ Some v) → (v : Value) × (cond b (Some w) rest ≡ Some v)
found_later w rest true found = (w, refl)
found_later w rest false found = found

module _ (c : Context) (rows : List (List Value)) where
  told_first : (x : Operand) (w : Value) (rest : Option Value) (place column : ℕ) (v : Value) (b : Bool) → is_column place column x ≡ b → value_of c rows x ≡ Some w
      → (rest ≡ Some v → value_of c rows (Col place column) ≡ Some v) → cond b (Some w) rest ≡ Some v → value_of c rows (Col place column) ≡ Some v
  told_first x w rest place column v true is first again e = subst (λ y. value_of c rows y ≡ Some v) (column_is place column x is) (first ∙ e)
  told_first x w rest place column v false is first again e = again e

  -- what is told of a column by a row that the head gives is the column's value
  column_told : (head : List Operand) (row : List Value) (place column : ℕ) (v : Value) → map (value_of c rows) head ≡ map Some row → column_in head row place column ≡ Some v
      → value_of c rows (Col place column) ≡ Some v
  column_told [] row place column v given told = cc
  column_told (x ∷ head) [] place column v given told = cc
  column_told (x ∷ head) (w ∷ row) place column v given told =
      told_first x w (column_in head row place column) place column v (is_column place column x) refl
      (head_is (value_of c rows x) (Some w) (map (value_of c rows) head) (map Some row) given)
      (column_told head row place column v (tail_is (value_of c rows x) (Some w) (map (value_of c rows) head) (map Some row) given)) told

  pub told_is : (head : List Operand) (row : List Value) (x : Operand) (v : Value) → map (value_of c rows) head ≡ map Some row → told_by c head row x ≡ Some v → value_of c rows x ≡ Some v
  told_is head row (Col place column) v given told = column_told head row place column v given told
  told_is head row (Val w) v given told = told
  told_is head row (Param n) v given told = told
  told_is head row (Var n) v given told = cc

  -- a column that stands in the head is told
  column_found : (head : List Operand) (row : List Value) (i place column : ℕ) → map (value_of c rows) head ≡ map Some row → slice_get head i ≡ Some (Col place column)
      → (v : Value) × (column_in head row place column ≡ Some v)
  column_found [] row i place column given at = cc
  column_found (x ∷ head) [] i place column given at = cc
  column_found (x ∷ head) (w ∷ row) zero place column given at =
      let same : is_column place column x ≡ true = subst (λ y. is_column place column y ≡ true) (sym (some_is x (Col place column) at)) (column_itself place column) in
      (w, found_here w (column_in head row place column) (is_column place column x) same)
  column_found (x ∷ head) (w ∷ row) (suc j) place column given at =
      found_later w (column_in head row place column) (is_column place column x)
      (column_found head row j place column (tail_is (value_of c rows x) (Some w) (map (value_of c rows) head) (map Some row) given) at)

  -- the head's own values are told
  pub head_told : (head : List Operand) (row : List Value) (i : ℕ) (x : Operand) (v : Value) → map (value_of c rows) head ≡ map Some row → slice_get head i ≡ Some x → value_of c rows x ≡ Some v
      → told_by c head row x ≡ Some v
  head_told head row i (Col place column) v given at is =
      let found = column_found head row i place column given at in
      let value : value_of c rows (Col place column) ≡ Some found.0 = column_told head row place column found.0 given found.1 in
      found.1 ∙ sym value ∙ is
  head_told head row i (Val w) v given at is = is
  head_told head row i (Param n) v given at is = is
  head_told head row i (Var n) v given at is = is

-- ---- lists side by side

AllZip-back : {A B : Type 0} (R : A → B → Type 0) (xs : List A) (ys : List B) (i : ℕ) (y : B) → AllZip R xs ys → slice_get ys i ≡ Some y → (x : A) × (slice_get xs i ≡ Some x) × R x y
AllZip-back R [] [] i y h e = cc
AllZip-back R [] (b ∷ ys) i y h e = absurd h
AllZip-back R (a ∷ xs) [] i y h e = absurd h
AllZip-back R (a ∷ xs) (b ∷ ys) zero y h e = (a, refl, subst (λ q. R a q) (some_is b y e) h.0)
AllZip-back R (a ∷ xs) (b ∷ ys) (suc i) y h e = AllZip-back R xs ys i y h.1 e

AllZip-places : {A B : Type 0} (R S : A → B → Type 0) (xs : List A) (ys : List B) → AllZip R xs ys
    → ((i : ℕ) (x : A) (y : B) → slice_get xs i ≡ Some x → slice_get ys i ≡ Some y → R x y → S x y) → AllZip S xs ys
AllZip-places R S [] [] h f = tt
AllZip-places R S [] (y ∷ ys) h f = absurd h
AllZip-places R S (x ∷ xs) [] h f = absurd h
AllZip-places R S (x ∷ xs) (y ∷ ys) h f = (f 0 x y refl refl h.0, AllZip-places R S xs ys h.1 (λ i. f (suc i)))

given_values : {A B : Type 0} (f : A → Option B) (xs : List A) (ys : List B) → map f xs ≡ map Some ys → AllZip (λ x y. f x ≡ Some y) xs ys
given_values f [] [] e = tt
given_values f [] (y ∷ ys) e = cc
given_values f (x ∷ xs) [] e = cc
given_values f (x ∷ xs) (y ∷ ys) e = (head_is (f x) (Some y) (map f xs) (map Some ys) e, given_values f xs ys (tail_is (f x) (Some y) (map f xs) (map Some ys) e))

-- ---- columns

and_then_is : {A B : Type 0} (f : A → Option B) (o : Option A) (b : B) → option_and_then f o ≡ Some b → (a : A) × (o ≡ Some a) × (f a ≡ Some b)
and_then_is f None b e = cc
and_then_is f (Some a) b e = (a, refl, e)

some_rows : (o : Option (List (List Value))) (row : List Value) → Contains (unwrap_or o []) row → (l : List (List Value)) × (o ≡ Some l) × Contains l row
some_rows None row h = absurd (Contains-nil row h)
some_rows (Some l) row h = (l, refl, h)

-- the value of a column in a database that conforms may stand there
column_stands : (s : Schema) (c : Context) (d : RowSet) (from : List ℕ) (rows : List (List Value)) (place column : ℕ) (v : Value) → Conforms s d → IsChoice d from rows
    → value_of c rows (Col place column) ≡ Some v → MayStand s from (Col place column) v
column_stands s c d from rows place column v conforms chosen is =
    let row = and_then_is (λ r. slice_get r column) (slice_get rows place) v is in
    let t = AllZip-back (λ table r. Contains (rows_of d table) r) from rows place row.0 chosen row.1 in
    let list = some_rows (slice_get d.tables t.0) row.0 t.2 in
    let table = AllZip-back (TableConforms d) s.tables d.tables t.0 list.0 conforms.tables list.1 in
    let fits : RowFits table.0 row.0 = All-contains (RowFits table.0) list.0 row.0 (table.2).kinds list.2 in
    let it = AllZip-back IsOfColumn (table.0).columns row.0 column v fits row.2 in
    (it.0, column_is_at s from place column t.0 table.0 it.0 t.1 table.1 it.1, it.2)
  where
    column_is_at : (s : Schema) (from : List ℕ) (place column t : ℕ) (table : Table) (it : Column) → slice_get from place ≡ Some t → slice_get s.tables t ≡ Some table → slice_get table.columns column ≡ Some it
        → column_at s from place column ≡ Some it
    column_is_at s from place column t table it at there is = rw (at, there, is) refl

may_stand : (s : Schema) (c : Context) (d : RowSet) (from : List ℕ) (rows : List (List Value)) (x : Operand) (v : Value) → Conforms s d → IsChoice d from rows → value_of c rows x ≡ Some v → MayStand s from x v
may_stand s c d from rows (Col place column) v conforms chosen is = column_stands s c d from rows place column v conforms chosen is
may_stand s c d from rows (Val w) v conforms chosen is = tt
may_stand s c d from rows (Param n) v conforms chosen is = tt
may_stand s c d from rows (Var n) v conforms chosen is = tt

-- ---- conditions

same_value : (o : Option Value) (a b : Value) → o ≡ Some a → o ≡ Some b → a ≡ b
same_value o a b p q = some_is a b (sym p ∙ q)

may_hold : (c : Context) (rows : List (List Value)) (head : List Operand) (row : List Value) (atom : Atom) → map (value_of c rows) head ≡ map Some row → Holds c rows atom → MayHold c head row atom
may_hold c rows head row atom given h left right is_left is_right =
    let l : h.left ≡ left = same_value (value_of c rows atom.left) h.left left h.left_is (told_is c rows head row atom.left left given is_left) in
    let r : h.right ≡ right = same_value (value_of c rows atom.right) h.right right h.right_is (told_is c rows head row atom.right right given is_right) in
    subst (λ b. Compares atom.op left b) r (subst (λ a. Compares atom.op a h.right) l h.compared)

-- ---- rows of parts

pub can_be : (s : Schema) (c : Context) (d : RowSet) (row : List Value) (part : Part) → Conforms s d → InPart c d part row → CanBeOf s c row part
can_be s c d row part conforms (rows, chosen, gives) =
    record {
      head =
          AllZip-places (λ x v. value_of c rows x ≡ Some v) (IsHeadOf s c part row) part.head row (given_values (value_of c rows) part.head row gives.head)
          (λ i x v at there is.
          record { told = head_told c rows part.head row i x v gives.head at is; stands = may_stand s c d part.from rows x v conforms chosen is });
      conds = All-weaker (Holds c rows) (MayHold c part.head row) (λ atom h. may_hold c rows part.head row atom gives.head h) part.conds gives.conds;
    }

pub given_can_be : GivenCanBe
given_can_be s c d row part conforms there = can_be s c d row part conforms (from_alone part c d row there)

pub chosen_keeps : {X : Type 0} (P : X → Type 0) {xs ys : List X} (x : X) → Chosen P xs ys → Contains xs x → P x → Contains ys x
chosen_keeps P x nothing there p = there
chosen_keeps P x (taken {x = y} {xs = xs} {ys = ys} q rest) there p =
    elim (Contains-cases y xs x there) [
      | inl same ↦ subst (λ z. Contains (y ∷ ys) z) same (Contains-head y ys)
      | inr later ↦ Contains-later y ys x (chosen_keeps P x rest later p)
    ]
chosen_keeps P x (left_out {x = y} {xs = xs} {ys = ys} q rest) there p =
    elim (Contains-cases y xs x there) [
      | inl same ↦ absurd (q (subst P (sym same) p))
      | inr later ↦ chosen_keeps P x rest later p
    ]

pub chosen_within : {X : Type 0} (P : X → Type 0) {xs ys : List X} (x : X) → Chosen P xs ys → Contains ys x → Contains xs x
chosen_within P x nothing there = there
chosen_within P x (taken {x = y} {xs = xs} {ys = ys} q rest) there =
    elim (Contains-cases y ys x there) [
      | inl same ↦ subst (λ z. Contains (y ∷ xs) z) same (Contains-head y xs)
      | inr later ↦ Contains-later y xs x (chosen_within P x rest later)
    ]
chosen_within P x (left_out {x = y} {xs = xs} {ys = ys} q rest) there = Contains-later y xs x (chosen_within P x rest there)

pub row_is_of_its_parts : RowIsOfItsParts
row_is_of_its_parts s c d q row parts conforms chosen = (
  λ (part, there, given). (part, chosen_keeps (CanBeOf s c row) part chosen there (can_be s c d row part conforms given), given),
  λ (part, there, given). (part, chosen_within (CanBeOf s c row) part chosen there, given),
)

pub row_is_recorded : RowIsRecorded
row_is_recorded s c d q row [] conforms chosen some = absurd (some refl)
row_is_recorded s c d q row (part ∷ []) conforms chosen some = row_is_of_its_parts s c d q row (part ∷ []) conforms chosen
row_is_recorded s c d q row (part ∷ other ∷ more) conforms chosen some = (λ h. h, λ h. h)
