-- How the rows of a place of a part are found by what equations tie them to.
use Rattle.std.specs.Prelude.{⊤, ◌≡◌, ◌≢◌, ◌⊎◌, ℕ, ◌+◌, ◌<◌, Bool, List, [], ◌∷◌, ◌++◌, All, Contains, length, Option, Some, None, map, slice_get, take, eqb, IsTrue}
use Rattle.std.specs.Borrow.{Bor}
use Rattle.std.specs.List.{IsDistinct}
use Rattle.std.specs.List.Sorted.{IsPermutation, IsSortedByKey}
use Rattle.ba_index.specs.Orders.{HaveFront, IsInOrder}
use Rattle.ba_index.specs.declared.order.Order.{Order}
use Rattle.ba_model.specs.Meaning.{rows_of, Holds}
use Rattle.ba_model.specs.Order.{row_cmp}
use Rattle.ba_model.specs.declared.policy.Context.{Context}
use Rattle.ba_model.specs.declared.query.Atom.{Atom}
use Rattle.ba_model.specs.declared.query.Op.TheVariants.{Eq}
use Rattle.ba_model.specs.declared.query.Operand.{Operand}
use Rattle.ba_model.specs.declared.query.Operand.TheVariants.{Col, Val, Param, Var}
use Rattle.ba_model.specs.declared.query.Part.{Part}
use Rattle.ba_model.specs.declared.value.RowSet.{RowSet}
use Rattle.ba_model.specs.declared.value.Value.{Value}
use Rattle.ba_model.specs.declared.value.Value.TheVariants.{Null, Int, Text}
use Rattle.ba_eval.specs.declared.place.Entry.{Entry}
use Rattle.ba_eval.specs.declared.place.Place.{Place}
use Rattle.ba_eval.specs.declared.place.Source.{Source}
use Rattle.ba_eval.specs.declared.place.Source.TheVariants.{Made, Kept}
use Rattle.ba_eval.specs.declared.tie.Tie.{Tie}

-- a value that something can be equal to: it is there and not NULL
abbrev pub known : Option Value → Option Value
known None = None
known (Some Null) = None
known (Some (Int n)) = Some (Int n)
known (Some (Text s)) = Some (Text s)

-- both are there and the same, and not NULL
pub record AreEqual (a b : Option Value) : Type 0 where
  pub value : Value
  pub left : known a ≡ Some value
  pub right : known b ≡ Some value

-- the operand's column, if it has one, stands in the first n places
abbrev pub StandsWithin : ℕ → Operand → Type 0
StandsWithin n (Col place column) = place < n
StandsWithin n (Val v) = ⊤
StandsWithin n (Param m) = ⊤
StandsWithin n (Var m) = ⊤

-- the operand's column, if it has one, stands at this place
abbrev pub StandsAt : ℕ → Operand → Type 0
StandsAt at (Col place column) = place ≡ at
StandsAt at (Val v) = ⊤
StandsAt at (Param n) = ⊤
StandsAt at (Var n) = ⊤

-- the operand has one value whatever rows stand at this place and those after it: it is a column of an earlier place, or none
abbrev pub IsOutside : ℕ → Operand → Type 0
IsOutside at (Col place column) = place < at
IsOutside at (Val v) = ⊤
IsOutside at (Param n) = ⊤
IsOutside at (Var n) = ⊤

-- the operand's value where its column is one of the row's
abbrev pub value_in : Context → List Value → Operand → Option Value
value_in c row (Col place column) = slice_get row column
value_in c row (Val v) = Some v
value_in c row (Param n) = slice_get c.values n
value_in c row (Var n) = None

-- an equation whose columns all stand at this place
pub record IsWithin (at : ℕ) (atom : Atom) : Type 0 where
  pub equation : atom.op ≡ Eq
  pub left : StandsAt at atom.left
  pub right : StandsAt at atom.right

-- the row makes true the equations whose columns all stand at its place
abbrev pub MeetsWithin : Context → ℕ → List Value → List Atom → Type 0
MeetsWithin c at row = All (λ atom. IsWithin at atom → AreEqual (value_in c row atom.left) (value_in c row atom.right))

-- own is the tied column, and other stands outside
pub record Ties (at : ℕ) (own other : Operand) (tie : Tie) : Type 0 where
  pub own_is : own ≡ Col at tie.column
  pub other_is : other ≡ tie.other.now
  pub outside : IsOutside at other

-- the atom is an equation of the tied column and what stands outside
pub record IsTie (at : ℕ) (atom : Atom) (tie : Tie) : Type 0 where
  pub equation : atom.op ≡ Eq
  pub sides : Ties at atom.left atom.right tie ⊎ Ties at atom.right atom.left tie

abbrev pub TieBetween : ℕ → Operand → Operand → Option Tie → Type 0
TieBetween at own other None = (tie : Tie) → Ties at own other tie → ⊥
TieBetween at own other (Some tie) = Ties at own other tie

abbrev pub IsTieOf : ℕ → Atom → Option Tie → Type 0
IsTieOf at atom None = (tie : Tie) → IsTie at atom tie → ⊥
IsTieOf at atom (Some tie) = IsTie at atom tie

-- the ties of the atoms, at least one for each atom that has one
pub record AreTies (at : ℕ) (atoms : List Atom) (ties : List Tie) : Type 0 where
  pub sound : (tie : Tie) → Contains ties tie → (atom : Atom) × Contains atoms atom × IsTie at atom tie
  pub complete : (atom : Atom) (tie : Tie) → Contains atoms atom → IsTie at atom tie → (own : Tie) × Contains ties own × IsTie at atom own

-- the key has these values, or is none since one isn't there
abbrev pub IsKey : (Tie → Option Value) → List Tie → Option (List (Bor Value)) → Type 0
IsKey value ties None = (key : List Value) → map value ties ≢ map Some key
IsKey value ties (Some key) = map value ties ≡ map Some (map (λ v. v.now) key)

abbrev pub key_of : Entry → List Value
key_of entry = map (λ v. v.now) entry.key

-- the row's tied columns have this key
abbrev pub HasKey : List Tie → List Value → List Value → Type 0
HasKey ties row key = map (λ tie. known (slice_get row tie.column)) ties ≡ map Some key

-- the entry of the row with this number, or none since it fails an equation within the place or has no key
abbrev pub IsEntryOf : Context → List Atom → ℕ → List Value → List Tie → ℕ → Option Entry → Type 0
IsEntryOf c atoms at row ties number None = (key : List Value) → MeetsWithin c at row atoms → HasKey ties row key → ⊥
IsEntryOf c atoms at row ties number (Some entry) = (entry.number ≡ number) × MeetsWithin c at row atoms × HasKey ties row (key_of entry)

-- the entry is that of its row, which meets the equations within the place
pub record IsEntry (c : Context) (atoms : List Atom) (at : ℕ) (rows : List (List Value)) (ties : List Tie) (entry : Entry) : Type 0 where
  pub row : List Value
  pub row_is : slice_get rows entry.number ≡ Some row
  pub within : MeetsWithin c at row atoms
  pub key : HasKey ties row (key_of entry)

-- some entry has this number and key
pub record HasEntry (entries : List Entry) (number : ℕ) (key : List Value) : Type 0 where
  pub entry : Entry
  pub there : Contains entries entry
  pub number_is : entry.number ≡ number
  pub key_is : key_of entry ≡ key

abbrev pub same_number : Entry → Entry → Bool
same_number x y = eqb x.number y.number

-- one entry for each of the first n rows that meets the equations within the place and has a key
pub record Entered (c : Context) (atoms : List Atom) (at : ℕ) (rows : List (List Value)) (ties : List Tie) (n : ℕ) (entries : List Entry) : Type 0 where
  pub sound : All (IsEntry c atoms at rows ties) entries
  pub below : All (λ entry. entry.number < n) entries
  pub complete : (number : ℕ) (row key : List Value) → number < n → slice_get rows number ≡ Some row → MeetsWithin c at row atoms → HasKey ties row key → HasEntry entries number key
  pub distinct : IsDistinct same_number entries

-- the same entries, by key
pub record IsOrdered (old new : List Entry) : Type 0 where
  pub moved : IsPermutation old new
  pub sorted : IsSortedByKey key_of row_cmp new

-- those of the entries that have the key
pub record HaveKey (entries : List Entry) (key : List Value) (found : List Entry) : Type 0 where
  pub sound : All (λ entry. key_of entry ≡ key) found
  pub only : (entry : Entry) → Contains found entry → Contains entries entry
  pub complete : (entry : Entry) → Contains entries entry → key_of entry ≡ key → Contains found entry
  pub distinct : IsDistinct same_number entries → IsDistinct same_number found

-- those of the entries that have the key, or none without a key
abbrev pub HaveKeyIfAny : List Entry → Option (List (Bor Value)) → List Entry → Type 0
HaveKeyIfAny entries None found = found ≡ []
HaveKeyIfAny entries (Some key) found = HaveKey entries (map (λ v. v.now) key) found

-- the numbers of entries that are those with the key
pub record HaveNumbers (entries : List Entry) (key : Option (List (Bor Value))) (numbers : List ℕ) : Type 0 where
  pub found : List Entry
  pub have : HaveKeyIfAny entries key found
  pub are : numbers ≡ map (λ entry. entry.number) found

-- an equation that the row at a place settles
abbrev pub IsSettledAt : ℕ → Atom → Type 0
IsSettledAt at atom = IsWithin at atom ⊎ ((tie : Tie) × IsTie at atom tie)

-- some of the ties is the atom
abbrev pub IsTied : ℕ → List Tie → Atom → Type 0
IsTied at ties atom = (tie : Tie) × Contains ties tie × IsTie at atom tie

-- every equation that the place settles is one of the ties
abbrev pub IsCovered : ℕ → List Atom → List Tie → Type 0
IsCovered at atoms ties = (atom : Atom) → Contains atoms atom → IsSettledAt at atom → IsTied at ties atom

-- the ties are some of these, on the first of the columns
pub record IsFront (all : List Tie) (columns : List ℕ) (ties : List Tie) : Type 0 where
  pub some : (tie : Tie) → Contains ties tie → Contains all tie
  pub columns_are : map (λ tie. tie.column) ties ≡ take (length ties) columns

-- an index that was made for the answer: the entries stand by key
pub record IsMade (c : Context) (atoms : List Atom) (at : ℕ) (rows : List (List Value)) (ties : List Tie) (entries : List Entry) : Type 0 where
  pub ties_are : AreTies at atoms ties
  pub entered : Entered c atoms at rows ties (length rows) entries
  pub sorted : IsSortedByKey key_of row_cmp entries

-- an order of the rows with some of the ties, on its first columns
pub record IsTiedOrder (rows : List (List Value)) (all ties : List Tie) (order : Order) : Type 0 where
  pub order_is : IsInOrder rows order
  pub front : IsFront all order.columns ties

-- an order of the rows whose first columns are tied: in a bounded search by every equation that the place settles
pub record IsKept (bounded : Bool) (atoms : List Atom) (at : ℕ) (rows : List (List Value)) (ties : List Tie) (order : Order) : Type 0 where
  pub order_is : IsInOrder rows order
  pub columns_are : map (λ tie. tie.column) ties ≡ take (length ties) order.columns
  pub sound : (tie : Tie) → Contains ties tie → (atom : Atom) × Contains atoms atom × IsTie at atom tie
  pub complete : IsTrue bounded → IsCovered at atoms ties

abbrev pub IsSource : Bool → Context → List Atom → ℕ → List (List Value) → List Tie → Source → Type 0
IsSource bounded c atoms at rows ties (Made entries) = IsMade c atoms at rows ties entries.items
IsSource bounded c atoms at rows ties (Kept order) = IsKept bounded atoms at rows ties order.now

-- the place's index
pub record IsPlace (bounded : Bool) (c : Context) (d : RowSet) (part : Part) (at : ℕ) (place : Place) : Type 0 where
  pub rows_are : place.rows.now ≡ rows_of d place.table
  pub source_is : IsSource bounded c part.conds at place.rows.now place.ties.items place.source

-- the numbers of the rows that have the key as their front in the order, or none without a key
abbrev pub HaveFrontIfAny : List (List Value) → Order → Option (List (Bor Value)) → List ℕ → Type 0
HaveFrontIfAny rows order None numbers = numbers ≡ []
HaveFrontIfAny rows order (Some key) numbers = HaveFront rows order (map (λ v. v.now) key) numbers

-- the indexes of further places, the first of them at this one
abbrev pub ArePlaces : Bool → Context → RowSet → Part → ℕ → List Place → Type 0
ArePlaces bounded c d part at [] = ⊤
ArePlaces bounded c d part at (place ∷ places) = IsPlace bounded c d part at place × ArePlaces bounded c d part (at + 1) places

-- the row makes true beside the chosen rows what it settles
abbrev pub MeetsSettled : Context → Part → List (List Value) → List Value → Type 0
MeetsSettled c part chosen row = (atom : Atom) → Contains part.conds atom → IsSettledAt (length chosen) atom → Holds c (chosen ++ row ∷ []) atom

-- the numbers of the rows that make true beside the chosen rows what they settle, each once: in a bounded search of no other rows
pub record AreCandidates (bounded : Bool) (c : Context) (d : RowSet) (part : Part) (table : ℕ) (chosen : List (List Value)) (numbers : List ℕ) : Type 0 where
  pub sound : (number : ℕ) → Contains numbers number → (row : List Value) × (slice_get (rows_of d table) number ≡ Some row) × (IsTrue bounded → MeetsSettled c part chosen row)
  pub complete : (number : ℕ) (row : List Value) → slice_get (rows_of d table) number ≡ Some row → MeetsSettled c part chosen row → Contains numbers number
  pub distinct : IsDistinct eqb numbers
