-- When a query, a policy and a context fit a schema and parameters.
use Rattle.std.specs.Prelude.{◌≡◌, ◌≢◌, ℕ, ◌≤◌, ◌++◌, length, List, [], All, Option, Some, None, map, slice_get, option_and_then, option_map}
use Rattle.std.specs.List.{AllZip}
use Rattle.ba_model.specs.Conform.{IsOfKind}
use Rattle.ba_model.specs.Limits.{most_atoms, most_head, most_part_tables, most_parts}
use Rattle.ba_model.specs.declared.policy.CacheKey.{CacheKey}
use Rattle.ba_model.specs.declared.policy.Context.{Context}
use Rattle.ba_model.specs.declared.policy.Parameter.{Parameter}
use Rattle.ba_model.specs.declared.policy.Policy.{Policy}
use Rattle.ba_model.specs.declared.query.Atom.{Atom}
use Rattle.ba_model.specs.declared.query.Op.{Op}
use Rattle.ba_model.specs.declared.query.Op.TheVariants.{Eq, Ne, Lt, Le, IsNull, NotNull}
use Rattle.ba_model.specs.declared.query.Operand.{Operand}
use Rattle.ba_model.specs.declared.query.Operand.TheVariants.{Col, Val, Param, Var}
use Rattle.ba_model.specs.declared.query.Part.{Part}
use Rattle.ba_model.specs.declared.query.Query.{Query}
use Rattle.ba_model.specs.declared.schema.Kind.{Kind}
use Rattle.ba_model.specs.declared.schema.Kind.TheVariants.{Int as IntKind, Text as TextKind}
use Rattle.ba_model.specs.declared.schema.Schema.{Schema}
use Rattle.ba_model.specs.declared.value.Value.{Value}
use Rattle.ba_model.specs.declared.value.Value.TheVariants.{Null, Int, Text}

-- NULL has no kind
abbrev pub kind_of_value : Value → Option Kind
kind_of_value Null = None
kind_of_value (Int n) = Some IntKind
kind_of_value (Text t) = Some TextKind

-- the kinds of parameters
abbrev pub kinds_of : List Parameter → List Kind
kinds_of params = map (λ parameter. parameter.kind) params

-- the kind of the column of a table, if they are there
abbrev pub column_kind : Schema → ℕ → ℕ → Option Kind
column_kind s table column =
    option_and_then (λ it. option_map (λ found. found.kind) (slice_get it.columns column)) (slice_get s.tables table)

-- The kind of an operand, if it is there: from gives the part's tables, params and vars the kinds of parameters and variables.
abbrev pub kind_of : Schema → List Kind → List Kind → List ℕ → Operand → Option Kind
kind_of s params vars from (Col place column) = option_and_then (λ table. column_kind s table column) (slice_get from place)
kind_of s params vars from (Val v) = kind_of_value v
kind_of s params vars from (Param n) = slice_get params n
kind_of s params vars from (Var n) = slice_get vars n

-- order is of whole numbers alone; the right side of IS NULL and IS NOT NULL repeats the left
abbrev pub OpFits : Op → Kind → Operand → Operand → Type 0
OpFits Eq k left right = Unit {0}
OpFits Ne k left right = Unit {0}
OpFits Lt k left right = k ≡ IntKind
OpFits Le k left right = k ≡ IntKind
OpFits IsNull k left right = right ≡ left
OpFits NotNull k left right = right ≡ left

-- both sides are there and of one kind
pub record AtomFits (s : Schema) (params vars : List Kind) (from : List ℕ) (atom : Atom) : Type 0 where
  pub kind : Kind
  pub left_is : kind_of s params vars from atom.left ≡ Some kind
  pub right_is : kind_of s params vars from atom.right ≡ Some kind
  pub op : OpFits atom.op kind atom.left atom.right

-- the part has tables of the schema, its atoms fit, and its head has these kinds
pub record PartFits (s : Schema) (params vars : List Kind) (kinds : List Kind) (part : Part) : Type 0 where
  pub some_table : part.from ≢ []
  pub tables : All (λ t. slice_get s.tables t ≢ None) part.from
  pub conds : All (AtomFits s params vars part.from) part.conds
  pub head : map (kind_of s params vars part.from) part.head ≡ map Some kinds

-- there is a part, and the heads have the same kinds, of which there is one
pub record QueryFits (s : Schema) (params vars : List Kind) (q : Query) : Type 0 where
  pub kinds : List Kind
  pub some_kind : kinds ≢ []
  pub some_part : q.parts ≢ []
  pub parts : All (PartFits s params vars kinds) q.parts

-- a value of its kind for each parameter, never NULL
abbrev pub ContextFits : List Kind → Context → Type 0
ContextFits params c = AllZip IsOfKind params c.values

-- the part's counts are within the limits
pub record PartWithin (part : Part) : Type 0 where
  pub tables : length part.from ≤ most_part_tables
  pub conds : length part.conds ≤ most_atoms
  pub head : length part.head ≤ most_head

-- a query for a schema, parameters and variables of these kinds: it fits them, and its counts are within the limits
pub record IsQuery (s : Schema) (params vars : List Kind) (q : Query) : Type 0 where
  pub fits : QueryFits s params vars q
  pub few_parts : length q.parts ≤ most_parts
  pub within : All PartWithin q.parts

-- the queries behind a cache key are queries for the policy's schema and its parameters followed by the key's arguments, without variables
pub record KeyFits (policy : Policy) (key : CacheKey) : Type 0 where
  pub queries : All (IsQuery policy.schema (kinds_of (policy.params ++ key.arguments)) []) key.queries

-- each view is a query for the policy's schema and parameters, without variables; and so are the queries behind each cache key
pub record PolicyFits (policy : Policy) : Type 0 where
  pub views : All (λ view. IsQuery policy.schema (kinds_of policy.params) [] view.query) policy.views
  pub keys : All (KeyFits policy) policy.keys
