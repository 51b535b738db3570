-- What told rows know is so in each database that shows them, and so none shows two that clash.
use Rattle.std.proofs.Common.{◌≡◌, ◌≢◌, ◌∙◌, ℕ, zero, suc, Bool, true, false, ◌&&◌, ◌==◌, ◌⊎◌, cond, inl, inr, List, [], ◌∷◌, ◌++◌, refl, sym, ap, ap₂, subst, arith}
use Rattle.std.proofs.lemmas.Bool.Decides.{nat_tests}
use Rattle.std.proofs.lemmas.List.Elements.{All-append, All-contains, All-head, All-tail, All-weaker}
use Rattle.std.specs.List.{All, AllZip, Contains}
use Rattle.std.specs.Option.{option_or}
use Rattle.std.specs.Prelude.{Option, Some, None, slice_get, option_and_then, unwrap_or}
use Rattle.ba_model.proofs.ElementLemmas.{Contains-cases, Contains-nil}
use Rattle.ba_model.specs.Conform.{KeyHolds, Match, NoNull, TableConforms}
use Rattle.ba_model.specs.Meaning.{Compares, Gives, Holds, InAnswer, InPart, rows_of, value_of}
use Rattle.ba_model.specs.declared.policy.Context.{Context}
use Rattle.ba_model.specs.declared.query.Atom.{Atom}
use Rattle.ba_model.specs.declared.query.Op.{Op}
use Rattle.ba_model.specs.declared.query.Op.TheVariants.{Eq, Ne, Lt, Le, IsNull, NotNull}
use Rattle.ba_model.specs.declared.query.Operand.{Operand}
use Rattle.ba_model.specs.declared.query.Operand.TheVariants.{Col, Val, Param, Var}
use Rattle.ba_model.specs.declared.query.Part.{Part}
use Rattle.ba_model.specs.declared.query.Query.{Query}
use Rattle.ba_model.specs.declared.value.RowSet.{RowSet}
use Rattle.ba_model.specs.declared.value.Value.{Value}
use Rattle.ba_model.specs.declared.value.Value.TheVariants.{Null}
use Rattle.ba_comply.specs.Comply.{Shows}
use Rattle.ba_comply.specs.declared.trace.TraceEntry.{TraceEntry}
use Rattle.ba_parts.proofs.RowLemmas.{told_is}
use Rattle.ba_parts.specs.Parts.{column_in, is_column}
use Rattle.ba_clash.specs.Clash.{ClashingHasNoDatabase, IsShared, IsTold, Told, across, constant_of, fixed_by, fixed_in, known}

-- ---- operands

numbers_equal : (n m : ℕ) → (n == m) ≡ true → n ≡ m
numbers_equal n m e = grind (arith, nat_tests)

and_left : (a b : Bool) → (a && b) ≡ true → a ≡ true
and_left true b e = refl
and_left false b e = cc

and_right : (a b : Bool) → (a && b) ≡ true → b ≡ true
and_right true b e = e
and_right false b e = cc

column_is : (place column : ℕ) (x : Operand) → is_column place column x ≡ true
    → x ≡ Col place column
column_is place column (Col p k) e =
    ap₂ Col (numbers_equal p place (and_left (p == place) (k == column) e))
    (numbers_equal k column (and_right (p == place) (k == column) e))
column_is place column (Val v) e = cc
column_is place column (Param n) e = cc
column_is place column (Var n) e = cc

some_is : {X : Type 0} (a b : X) → Some a ≡ Some b → a ≡ b
some_is a b e = cc

or_cases : (a b : Option Value) (v : Value) → option_or a b ≡ Some v → (a ≡ Some v) ⊎ (b ≡ Some v)
or_cases None b v e = inr e
or_cases (Some x) b v e = inl e

-- ---- what a told row knows is so of the rows that give it

module _ (c : Context) (rows : List (List Value)) where
  constant_is : (x : Operand) (v : Value) → constant_of c x ≡ Some v → value_of c rows x ≡ Some v
  constant_is (Col place column) v e = cc
  constant_is (Val w) v e = e
  constant_is (Param n) v e = e
  constant_is (Var n) v e = cc

  across_is : (place column : ℕ) (it other : Operand) (v : Value) (b : Bool)
      → is_column place column it ≡ b → cond b (constant_of c other) None ≡ Some v
      → (it ≡ Col place column) × (value_of c rows other ≡ Some v)
  across_is place column it other v true is e =
      (column_is place column it is, constant_is other v e)
  across_is place column it other v false is e = cc

  fixed_by_is : (place column : ℕ) (v : Value) (op : Op) (left right : Operand) (l r : Value)
      → value_of c rows left ≡ Some l → value_of c rows right ≡ Some r → Compares op l r
      → fixed_by c place column op left right ≡ Some v → value_of c rows (Col place column) ≡ Some v
  fixed_by_is place column v Eq left right l r il ir (some, same) e =
      elim (or_cases (across c place column left right) (across c place column right left) v e) [
        | inl here ↦
            let is = across_is place column left right v (is_column place column left) refl here in
            subst (λ x. value_of c rows x ≡ Some v) is.0 (il ∙ (ap Some same ∙ (sym ir ∙ is.1)))
        | inr here ↦
            let is = across_is place column right left v (is_column place column right) refl here in
            subst (λ x. value_of c rows x ≡ Some v) is.0
            (ir ∙ (ap Some (sym same) ∙ (sym il ∙ is.1)))
      ]
  fixed_by_is place column v Ne left right l r il ir h e = cc
  fixed_by_is place column v Lt left right l r il ir h e = cc
  fixed_by_is place column v Le left right l r il ir h e = cc
  fixed_by_is place column v IsNull left right l r il ir h e = cc
  fixed_by_is place column v NotNull left right l r il ir h e = cc

  fixed_is : (place column : ℕ) (v : Value) (atoms : List Atom) → All (Holds c rows) atoms
      → fixed_in c atoms place column ≡ Some v → value_of c rows (Col place column) ≡ Some v
  fixed_is place column v [] h e = cc
  fixed_is place column v (atom ∷ atoms) h e =
      elim (or_cases (fixed_by c place column atom.op atom.left atom.right)
      (fixed_in c atoms place column) v e) [
        | inl here ↦
            let holds = All-head (Holds c rows) atom atoms h in
            fixed_by_is place column v atom.op atom.left atom.right holds.left holds.right
            holds.left_is holds.right_is holds.compared here
        | inr later ↦ fixed_is place column v atoms (All-tail (Holds c rows) atom atoms h) later
      ]

  known_is : (it : Told) (column : ℕ) (v : Value) → Gives c rows it.part it.row
      → known c it column ≡ Some v → value_of c rows (Col it.place column) ≡ Some v
  known_is it column v gives e =
      elim (or_cases (column_in it.part.head it.row it.place column)
      (fixed_in c it.part.conds it.place column) v e) [
        | inl here ↦ told_is c rows it.part.head it.row (Col it.place column) v gives.head here
        | inr later ↦ fixed_is it.place column v it.part.conds gives.conds later
      ]

-- ---- the row of a table behind a told row

AllZip-at : {A B : Type 0} (R : A → B → Type 0) (xs : List A) (ys : List B) (i : ℕ) (x : A)
    → AllZip R xs ys → slice_get xs i ≡ Some x → (y : B) × (slice_get ys i ≡ Some y) × R x y
AllZip-at R [] ys i x h at = cc
AllZip-at R (z ∷ xs) [] i x h at = absurd h
AllZip-at R (z ∷ xs) (y ∷ ys) zero x h at = (y, refl, subst (λ w. R w y) (some_is z x at) h.0)
AllZip-at R (z ∷ xs) (y ∷ ys) (suc i) x h at = AllZip-at R xs ys i x h.1 at

-- the row has each value that the told row knows
abbrev Has : Context → Told → List Value → Type 0
Has c it row = (column : ℕ) (v : Value) → known c it column ≡ Some v → slice_get row column ≡ Some v

-- a row of the table has
pub record IsOfTable (c : Context) (d : RowSet) (number : ℕ) (it : Told) : Type 0 where
  pub row : List Value
  pub there : Contains (rows_of d number) row
  pub has : Has c it row

module _ (c : Context) (d : RowSet) where
  of_only : (part : Part) (q : Query) (r : List Value) → q.parts ≡ part ∷ [] → InAnswer q c d r
      → InPart c d part r
  of_only part q r alone (other, there, given) =
      elim (Contains-cases part [] other (subst (λ parts. Contains parts other) alone there)) [
        | inl same ↦ subst (λ p. InPart c d p r) (sym same) given
        | inr none ↦ absurd (Contains-nil other none)
      ]

  of_part : (number : ℕ) (it : Told) → slice_get it.part.from it.place ≡ Some number
      → InPart c d it.part it.row → IsOfTable c d number it
  of_part number it at (rows, chosen, gives) =
      let found =
      AllZip-at (λ table row. Contains (rows_of d table) row) it.part.from rows it.place number
      chosen at in
      record {
        row = found.0;
        there = found.2;
        has = λ column v e.
            sym (ap (option_and_then (λ (r : List Value). slice_get r column)) found.1)
            ∙ known_is c rows it column v gives e;
      }

  of_table : (entries : List TraceEntry) (number : ℕ) (it : Told) → IsTold entries number it
      → Shows entries c d → IsOfTable c d number it
  of_table entries number it told shown =
      let all = All-contains (λ entry. All (InAnswer entry.query c d) entry.rows) entries told.entry
      shown.entries told.there in
      let answer =
      All-contains (InAnswer told.entry.query c d) told.entry.rows it.row all told.in_it in
      of_part number it told.at (of_only it.part told.entry.query it.row told.alone answer)

-- ---- two rows that agree on a key

module _ (c : Context) (one other : Told) (r s : List Value) (mine : Has c one r)
    (its : Has c other s) where
  same_on : (key : List ℕ) → All (IsShared c one other) key → Match r key s key
  same_on [] h = refl
  same_on (column ∷ key) h =
      let here = All-head (IsShared c one other) column key h in
      ap₂ (λ v vs. v ∷ vs)
      (mine column here.value here.is_mine ∙ sym (its column here.value here.is_its))
      (same_on key (All-tail (IsShared c one other) column key h))

  no_null : (key : List ℕ) → All (IsShared c one other) key → NoNull r key
  no_null key h =
      All-weaker (IsShared c one other) (λ column. slice_get r column ≢ Some Null)
      (λ column is e. is.some (some_is is.value Null (sym (mine column is.value is.is_mine) ∙ e)))
      key h

pub clashing_has_no_database : ClashingHasNoDatabase
clashing_has_no_database s c old new h d conforms shown_old shown_new =
    let all : Shows (old ++ new) c d =
    record {
      entries =
          All-append (λ entry. All (InAnswer entry.query c d) entry.rows) old new
          shown_old.entries shown_new.entries;
    } in
    let one = of_table c d new h.number h.one h.one_told shown_new in
    let other = of_table c d (old ++ new) h.number h.other h.other_told all in
    let list = AllZip-at (TableConforms d) s.tables d.tables h.number h.table conforms.tables
    h.is_table in
    let rows : rows_of d h.number ≡ list.0 = ap (λ o. unwrap_or o []) list.1 in
    let holds : KeyHolds list.0 h.key =
    All-contains (KeyHolds list.0) h.table.keys h.key (list.2).keys h.is_key in
    let same : one.row ≡ other.row =
    holds one.row other.row (subst (λ l. Contains l one.row) rows one.there)
    (subst (λ l. Contains l other.row) rows other.there)
    (no_null c h.one h.other one.row other.row one.has other.has h.key h.shared)
    (same_on c h.one h.other one.row other.row one.has other.has h.key h.shared) in
    h.apart.differ
    (some_is h.apart.mine h.apart.its
    (sym (one.has h.column h.apart.mine h.apart.is_mine)
    ∙ (ap (λ (r : List Value). slice_get r h.column) same
    ∙ other.has h.column h.apart.its h.apart.is_its)))
