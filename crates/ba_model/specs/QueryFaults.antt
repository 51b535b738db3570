-- The faults of a query, in the order in which they are told.
use Rattle.std.specs.Prelude.{◌≡◌, ℕ, ◌<◌, Bool, true, false, not, ◌&&◌, ◌||◌, ◌==◌, ◌↔◌, nat_le, List, [], ◌∷◌, Option, Some, None, is_some, length, slice_get}
use Rattle.std.specs.List.{list_all}
use Rattle.ba_model.specs.Fit.{IsQuery, kind_of}
use Rattle.ba_model.specs.Order.{value_cmp}
use Rattle.std.specs.Ordering.{eq_by_cmp}
use Rattle.ba_model.specs.Limits.{most_atoms, most_head, most_part_tables, most_parts}
use Rattle.ba_model.specs.declared.query.Atom.{Atom}
use Rattle.ba_model.specs.declared.query.Op.{Op}
use Rattle.ba_model.specs.declared.query.Op.TheVariants.{Eq, Ne, Lt, Le, IsNull, NotNull}
use Rattle.ba_model.specs.declared.query.Operand.{Operand}
use Rattle.ba_model.specs.declared.query.Operand.TheVariants.{Col, Val, Param, Var}
use Rattle.ba_model.specs.declared.query.Part.{Part}
use Rattle.ba_model.specs.declared.query.Query.{Query}
use Rattle.ba_model.specs.declared.check_query.QueryFault.{QueryFault}
use Rattle.ba_model.specs.declared.check_query.QueryFault.TheVariants.{BadTable, BadColumn, KindDiffers, OrderOnText, HeadDiffers, UnknownParam, TooMany}
use Rattle.ba_model.specs.declared.schema.Kind.{Kind}
use Rattle.ba_model.specs.declared.schema.Kind.TheVariants.{Int as IntKind, Text as TextKind}
use Rattle.ba_model.specs.declared.schema.Schema.{Schema}
use Rattle.ba_model.specs.declared.value.Value.TheVariants.{Null, Int, Text}

abbrev pub is_empty : {X : Type 0} → List X → Bool
is_empty [] = true
is_empty (x ∷ xs) = false

-- ---- BadTable: a part has a table, and each of its tables is there

abbrev pub tables_there : Schema → Part → Bool
tables_there s part = not (is_empty part.from) && list_all (λ t. is_some (slice_get s.tables t)) part.from

-- ---- BadColumn: each column of an atom and of the head is there

abbrev pub column_there : Schema → List ℕ → Operand → Bool
column_there s from (Col place column) = is_some (kind_of s [] [] from (Col place column))
column_there s from (Val v) = true
column_there s from (Param n) = true
column_there s from (Var n) = true

abbrev pub atom_columns : Schema → List ℕ → Atom → Bool
atom_columns s from atom = column_there s from atom.left && column_there s from atom.right

abbrev pub columns_there : Schema → Part → Bool
columns_there s part = list_all (atom_columns s part.from) part.conds && list_all (column_there s part.from) part.head

-- ---- KindDiffers: no literal is NULL, the sides of a comparison are of one kind where both are known, and the right
-- side of IS NULL and IS NOT NULL repeats the left

abbrev pub is_null : Operand → Bool
is_null (Col place column) = false
is_null (Val Null) = true
is_null (Val (Int n)) = false
is_null (Val (Text t)) = false
is_null (Param n) = false
is_null (Var n) = false

abbrev pub same_operand : Operand → Operand → Bool
same_operand (Col p k) (Col q l) = (p == q) && (k == l)
same_operand (Val v) (Val w) = eq_by_cmp value_cmp v w
same_operand (Param n) (Param m) = n == m
same_operand (Var n) (Var m) = n == m
same_operand _ _ = false

abbrev pub agree : Option Kind → Option Kind → Bool
agree (Some IntKind) (Some IntKind) = true
agree (Some TextKind) (Some TextKind) = true
agree (Some IntKind) (Some TextKind) = false
agree (Some TextKind) (Some IntKind) = false
agree None o = true
agree (Some k) None = true

abbrev pub sides_agree : Schema → List Kind → List Kind → List ℕ → Operand → Operand → Bool
sides_agree s params vars from left right = (not (is_null left) && not (is_null right)) && agree (kind_of s params vars from left) (kind_of s params vars from right)

abbrev pub atom_kinds : Schema → List Kind → List Kind → List ℕ → Op → Operand → Operand → Bool
atom_kinds s params vars from Eq left right = sides_agree s params vars from left right
atom_kinds s params vars from Ne left right = sides_agree s params vars from left right
atom_kinds s params vars from Lt left right = sides_agree s params vars from left right
atom_kinds s params vars from Le left right = sides_agree s params vars from left right
atom_kinds s params vars from IsNull left right = not (is_null left) && same_operand right left
atom_kinds s params vars from NotNull left right = not (is_null left) && same_operand right left

abbrev pub kinds_agree : Schema → List Kind → List Kind → Part → Bool
kinds_agree s params vars part =
    list_all (λ atom. atom_kinds s params vars part.from atom.op atom.left atom.right) part.conds && list_all (λ x. not (is_null x)) part.head

-- ---- OrderOnText: `<` and `<=` have no text

abbrev pub is_text : Option Kind → Bool
is_text (Some TextKind) = true
is_text (Some IntKind) = false
is_text None = false

abbrev pub is_order : Op → Bool
is_order Lt = true
is_order Le = true
is_order Eq = false
is_order Ne = false
is_order IsNull = false
is_order NotNull = false

abbrev pub atom_order : Schema → List Kind → List Kind → List ℕ → Atom → Bool
atom_order s params vars from atom = not (is_order atom.op) || (not (is_text (kind_of s params vars from atom.left)) && not (is_text (kind_of s params vars from atom.right)))

abbrev pub orders_numbers : Schema → List Kind → List Kind → Part → Bool
orders_numbers s params vars part = list_all (atom_order s params vars part.from) part.conds

-- ---- HeadDiffers: there is a part, no head is empty, and any two heads have as many operands, of one kind where both are known

abbrev pub heads_match : Schema → List Kind → List Kind → List ℕ → List Operand → List ℕ → List Operand → Bool
heads_match s params vars from [] others [] = true
heads_match s params vars from [] others (y ∷ ys) = false
heads_match s params vars from (x ∷ xs) others [] = false
heads_match s params vars from (x ∷ xs) others (y ∷ ys) =
    agree (kind_of s params vars from x) (kind_of s params vars others y) && heads_match s params vars from xs others ys

abbrev pub parts_match : Schema → List Kind → List Kind → Part → Part → Bool
parts_match s params vars p q = heads_match s params vars p.from p.head q.from q.head

abbrev pub has_head : Part → Bool
has_head part = not (is_empty part.head)

abbrev pub heads_agree : Schema → List Kind → List Kind → List Part → Bool
heads_agree s params vars parts = not (is_empty parts) && (list_all has_head parts && list_all (λ p. list_all (parts_match s params vars p) parts) parts)

-- ---- UnknownParam: each parameter and variable is there

abbrev pub named : List Kind → List Kind → Operand → Bool
named params vars (Col place column) = true
named params vars (Val v) = true
named params vars (Param n) = is_some (slice_get params n)
named params vars (Var n) = is_some (slice_get vars n)

abbrev pub atom_named : List Kind → List Kind → Atom → Bool
atom_named params vars atom = named params vars atom.left && named params vars atom.right

abbrev pub all_named : List Kind → List Kind → Part → Bool
all_named params vars part = list_all (atom_named params vars) part.conds && list_all (named params vars) part.head

-- ---- TooMany: a count is above its limit

abbrev pub part_within : Part → Bool
part_within part = nat_le (length part.from) most_part_tables && (nat_le (length part.conds) most_atoms && nat_le (length part.head) most_head)

abbrev pub within : List Part → Bool
within parts = nat_le (length parts) most_parts && list_all part_within parts

-- ---- the order

-- the query is without the fault
abbrev pub Lacks : QueryFault → Schema → List Kind → List Kind → List Part → Type 0
Lacks BadTable s params vars parts = list_all (tables_there s) parts ≡ true
Lacks BadColumn s params vars parts = list_all (columns_there s) parts ≡ true
Lacks KindDiffers s params vars parts = list_all (kinds_agree s params vars) parts ≡ true
Lacks OrderOnText s params vars parts = list_all (orders_numbers s params vars) parts ≡ true
Lacks HeadDiffers s params vars parts = heads_agree s params vars parts ≡ true
Lacks UnknownParam s params vars parts = list_all (all_named params vars) parts ≡ true
Lacks TooMany s params vars parts = within parts ≡ true

-- where a fault stands in the order
abbrev pub rank : QueryFault → ℕ
rank BadTable = 0
rank BadColumn = 1
rank KindDiffers = 2
rank OrderOnText = 3
rank HeadDiffers = 4
rank UnknownParam = 5
rank TooMany = 6

-- the first fault of the order that the query has
pub record IsFirstFault (f : QueryFault) (s : Schema) (params vars : List Kind) (parts : List Part) : Type 0 where
  pub has : Lacks f s params vars parts → ⊥
  pub first : (g : QueryFault) → rank g < rank f → Lacks g s params vars parts

-- the query has no fault
abbrev pub HasNoFault : Schema → List Kind → List Kind → List Part → Type 0
HasNoFault s params vars parts = (f : QueryFault) → Lacks f s params vars parts

-- a query for a schema, parameters and variables is what has no fault
abbrev pub QueryHasNoFault : Type 0
QueryHasNoFault = (s : Schema) (params vars : List Kind) (q : Query) → IsQuery s params vars q ↔ HasNoFault s params vars q.parts
