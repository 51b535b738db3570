-- What it means that rows break a key, a link or a rule, and which broken one is the first. Rows of
-- a table are numbered from 1.
use Rattle.std.specs.Prelude.{⊤, ◌≡◌, ◌⊎◌, ◌↔◌, ◌+◌, ◌<◌, ◌≤◌, ℕ, List, All, Contains, Ok, Err, Some, slice_get}
use Rattle.std.specs.List.Sorted.{IsStrictlySortedBy}
use Rattle.std.specs.declared.cmp.Ordering.TheVariants.{Less}
use Rattle.ba_model.specs.Conform.{Conforms, Match, NoNull, no_context}
use Rattle.ba_model.specs.Meaning.{InAnswer, rows_of}
use Rattle.ba_model.specs.Order.{row_cmp}
use Rattle.ba_model.specs.declared.schema.Link.{Link}
use Rattle.ba_model.specs.declared.schema.Rule.{Rule}
use Rattle.ba_model.specs.declared.schema.Schema.{Schema}
use Rattle.ba_model.specs.declared.schema.Table.{Table}
use Rattle.ba_model.specs.declared.value.RowSet.{RowSet}
use Rattle.ba_model.specs.declared.value.Value.{Value}
use Rattle.ba_tables.specs.Checked.{checked}
use Rattle.ba_tables.specs.TableSet.{RowsFit, TableSet}
use Rattle.ba_tables.specs.declared.broken.TablesFault.{TablesFault}
use Rattle.ba_tables.specs.declared.broken.TablesFault.TheVariants.{KeyBroken, LinkBroken, RuleBroken}

-- the row with this number
abbrev pub IsRowAt : List (List Value) → ℕ → List Value → Type 0
IsRowAt rows number row = (i : ℕ) × (number ≡ i + 1) × (slice_get rows i ≡ Some row)

-- two rows are equal on the key and have no NULL there; they may be equal altogether
pub record BreaksKey (rows : List (List Value)) (key : List ℕ) (first second : ℕ) : Type 0 where
  pub earlier : List Value
  pub later : List Value
  pub earlier_is : IsRowAt rows first earlier
  pub later_is : IsRowAt rows second later
  pub before : first < second
  pub no_null : NoNull later key
  pub equal : Match later key earlier key

-- a row has no NULL on the link's columns, and no row of the target is equal there
pub record BreaksLink (d : RowSet) (rows : List (List Value)) (link : Link) (number : ℕ) : Type 0 where
  pub row : List Value
  pub row_is : IsRowAt rows number row
  pub no_null : NoNull row link.columns
  pub no_target : (target : List Value) → Contains (rows_of d link.target) target → Match row link.columns target link.target_columns → ⊥

-- the row is one of the rule's left query and none of its right query
pub record BreaksRule (d : RowSet) (rule : Rule) (row : List Value) : Type 0 where
  pub left : InAnswer rule.left no_context d row
  pub not_right : InAnswer rule.right no_context d row → ⊥

-- the table with this number, and its rows
pub record IsTableAt (s : Schema) (d : RowSet) (number : ℕ) (table : Table) (rows : List (List Value)) : Type 0 where
  pub table_is : slice_get s.tables number ≡ Some table
  pub rows_are : slice_get d.tables number ≡ Some rows

abbrev pub IsBroken : Schema → RowSet → TablesFault → Type 0
IsBroken s d (KeyBroken number key first second) =
    (table : Table) × (rows : List (List Value)) × (columns : List ℕ) × IsTableAt s d number table rows × (slice_get table.keys key ≡ Some columns) × BreaksKey rows columns first second
IsBroken s d (LinkBroken number link row) =
    (table : Table) × (rows : List (List Value)) × (it : Link) × IsTableAt s d number table rows × (slice_get table.links link ≡ Some it) × BreaksLink d rows it row
IsBroken s d (RuleBroken number row) =
    (rule : Rule) × (slice_get s.rules number ≡ Some rule) × BreaksRule d rule row

-- Tables in order; of each its keys in order, then its links in order; after all tables the rules in
-- order. Of a key the least second row comes first, and of pairs with that the least first row; of a
-- link the row of least number; of a rule the least row.
abbrev pub Before : TablesFault → TablesFault → Type 0
Before (KeyBroken t k a b) (KeyBroken u l c e) = (t < u) ⊎ ((t ≡ u) × ((k < l) ⊎ ((k ≡ l) × ((b < e) ⊎ ((b ≡ e) × (a < c))))))
Before (KeyBroken t k a b) (LinkBroken u l j) = t ≤ u
Before (LinkBroken t k i) (KeyBroken u l c e) = t < u
Before (LinkBroken t k i) (LinkBroken u l j) = (t < u) ⊎ ((t ≡ u) × ((k < l) ⊎ ((k ≡ l) × (i < j))))
Before (KeyBroken t k a b) (RuleBroken n r) = ⊤
Before (LinkBroken t k i) (RuleBroken n r) = ⊤
Before (RuleBroken n r) (KeyBroken t k a b) = ⊥
Before (RuleBroken n r) (LinkBroken t k i) = ⊥
Before (RuleBroken n r) (RuleBroken m q) = (n < m) ⊎ ((n ≡ m) × (row_cmp r q ≡ Less))

-- the fault is one, and none is before it
pub record IsFirstBroken (s : Schema) (d : RowSet) (fault : TablesFault) : Type 0 where
  pub broken : IsBroken s d fault
  pub first : (other : TablesFault) → IsBroken s d other → Before other fault → ⊥

-- Checking tells the first broken key, link or rule, and passes where none is broken. So a database of
-- rows that fit conforms where it passes, and one of strictly rising rows that conforms passes.
pub record TellsFirstBroken : Type 0 where
  pub told : (s : Schema) (d : RowSet) (fault : TablesFault) → checked s d ≡ Err fault →
      IsFirstBroken s d fault
  pub passed : (s : Schema) (d : RowSet) (tables : TableSet) → checked s d ≡ Ok tables →
      (fault : TablesFault) → IsBroken s d fault → ⊥
  pub only : (s : Schema) (d : RowSet) (fault : TablesFault) → IsFirstBroken s d fault →
      checked s d ≡ Err fault
  pub conforms : (s : Schema) (d : RowSet) (tables : TableSet) → RowsFit s d →
      checked s d ≡ Ok tables → Conforms s d
  pub kept : (s : Schema) (d : RowSet) → All (IsStrictlySortedBy row_cmp) d.tables →
      Conforms s d → checked s d ≡ Ok (record { schema = s; rows = d })
