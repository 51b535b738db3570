-- Parts of a question as questions of their own, and which parts a told row can be of.
use Rattle.std.specs.Prelude.{◌≡◌, ◌&&◌, ◌==◌, ℕ, Bool, false, List, [], ◌∷◌, All, Option, Some, None, if◌then◌else◌, slice_get, option_and_then}
use Rattle.std.specs.List.{AllZip}
use Rattle.ba_model.specs.Conform.{IsOfColumn}
use Rattle.ba_model.specs.Meaning.{Compares}
use Rattle.ba_model.specs.declared.policy.Context.{Context}
use Rattle.ba_model.specs.declared.query.Atom.{Atom}
use Rattle.ba_model.specs.declared.query.Operand.{Operand}
use Rattle.ba_model.specs.declared.query.Operand.TheVariants.{Col, Val, Param, Var}
use Rattle.ba_model.specs.declared.query.Part.{Part}
use Rattle.ba_model.specs.declared.query.Query.{Query}
use Rattle.ba_model.specs.declared.schema.Column.{Column}
use Rattle.ba_model.specs.declared.schema.Schema.{Schema}
use Rattle.ba_model.specs.declared.value.Value.{Value}

-- ---- parts

-- the part as a question of its own
abbrev pub alone : Part → Query
alone part = record { parts = part ∷ [] }

-- the union of these parts
abbrev pub union_of : List Part → Query
union_of parts = record { parts = parts }

-- ---- what a row tells of a part

-- the operand is the column of this place
abbrev pub is_column : ℕ → ℕ → Operand → Bool
is_column place column (Col p k) = (p == place) && (k == column)
is_column place column (Val v) = false
is_column place column (Param n) = false
is_column place column (Var n) = false

-- the value of a row where the column stands first in the head
abbrev pub column_in : List Operand → List Value → ℕ → ℕ → Option Value
column_in [] row place column = None
column_in (x ∷ head) [] place column = None
column_in (x ∷ head) (v ∷ row) place column =
    if is_column place column x then Some v else column_in head row place column

-- the value of an operand that a row with this head tells: a constant's and a parameter's own, and
-- that of a column which stands in the head
abbrev pub told_by : Context → List Operand → List Value → Operand → Option Value
told_by c head row (Col place column) = column_in head row place column
told_by c head row (Val v) = Some v
told_by c head row (Param n) = slice_get c.values n
told_by c head row (Var n) = None

-- the comparison is true of the values, where both are there
abbrev pub MayHold : Context → List Operand → List Value → Atom → Type 0
MayHold c head row atom =
    (left right : Value) → told_by c head row atom.left ≡ Some left →
    told_by c head row atom.right ≡ Some right → Compares atom.op left right

-- the column at a place of the part's tables, if it is there
abbrev pub column_at : Schema → List ℕ → ℕ → ℕ → Option Column
column_at s from place column =
    option_and_then
    (λ t. option_and_then (λ table. slice_get table.columns column) (slice_get s.tables t))
    (slice_get from place)

-- the value may stand where the operand stands: of a column it has the kind, or is NULL where that
-- may be
abbrev pub MayStand : Schema → List ℕ → Operand → Value → Type 0
MayStand s from (Col place column) v =
    (it : Column) × (column_at s from place column ≡ Some it) × IsOfColumn it v
MayStand s from (Val w) v = Unit {0}
MayStand s from (Param n) v = Unit {0}
MayStand s from (Var n) v = Unit {0}

-- the value is what the row tells of the operand, and may stand there
pub record IsHeadOf (s : Schema) (c : Context) (part : Part) (row : List Value) (x : Operand)
    (v : Value) : Type 0 where
  pub told : told_by c part.head row x ≡ Some v
  pub stands : MayStand s part.from x v

-- The row can be of the part: it has the width, kinds and constants of its head, and breaks none of
-- its conditions as far as it tells their sides.
pub record CanBeOf (s : Schema) (c : Context) (row : List Value) (part : Part) : Type 0 where
  pub head : AllZip (IsHeadOf s c part row) part.head row
  pub conds : All (MayHold c part.head row) part.conds

-- those of the list of which it is so, in their order
pub data Chosen {X : Type 0} (P : X → Type 0) : List X → List X → Type 0 where
  nothing : Chosen P [] []
  taken : {x : X} {xs ys : List X} → P x → Chosen P xs ys → Chosen P (x ∷ xs) (x ∷ ys)
  left_out : {x : X} {xs ys : List X} → (P x → ⊥) → Chosen P xs ys → Chosen P (x ∷ xs) ys

-- under what a row is recorded that can be of these parts of the question: under the one part, or
-- else under the whole
abbrev pub recorded_under : Query → List Part → Query
recorded_under q [] = q
recorded_under q (part ∷ []) = alone part
recorded_under q (part ∷ other ∷ more) = q
