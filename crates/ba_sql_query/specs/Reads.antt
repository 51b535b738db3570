-- Which query a text reads as, in SQL's terms.
use Rattle.std.specs.Prelude.{◌≡◌, ◌≢◌, ◌↔◌, ℕ, ◌<◌, ◌^◌, List, [], ◌∷◌, ◌++◌, map, All, Option, Some, None, slice_get, Ok}
use Rattle.std.specs.List.{AllZip, flat_map}
use Rattle.ba_lex.specs.Tokens.{lexemes_of, tokens_of}
use Rattle.ba_lex.specs.declared.token.Lexeme.{Lexeme}
use Rattle.ba_lex.specs.declared.token.Token.{Token}
use Rattle.ba_model.specs.Fit.{kinds_of}
use Rattle.ba_model.specs.QueryFaults as faults
use Rattle.ba_model.specs.SchemaFaults.{columns_of}
use Rattle.ba_model.specs.declared.check_query.QueryFault.TheVariants as drafts
use Rattle.ba_model.specs.Limits.{most_query_bytes}
use Rattle.ba_model.specs.declared.policy.Parameter.{Parameter}
use Rattle.ba_model.specs.declared.query.Atom.{Atom}
use Rattle.ba_model.specs.declared.query.Operand.{Operand}
use Rattle.ba_model.specs.declared.query.Operand.TheVariants.{Col, Val, Param}
use Rattle.ba_model.specs.declared.query.Part.{Part}
use Rattle.ba_model.specs.declared.query.Query.{Query}
use Rattle.ba_model.specs.declared.schema.Kind.{Kind}
use Rattle.ba_model.specs.declared.schema.Schema.{Schema}
use Rattle.ba_sql_syntax.specs.Grammar.{IsQueryText}
use Rattle.ba_sql_syntax.specs.Scan.{IsSupported}
use Rattle.ba_sql_syntax.specs.declared.written.Constant.{Constant}
use Rattle.ba_sql_syntax.specs.declared.written.Constant.TheVariants as constants
use Rattle.ba_sql_syntax.specs.declared.written.Heads.{Heads}
use Rattle.ba_sql_syntax.specs.declared.written.Heads.TheVariants as heads
use Rattle.ba_sql_syntax.specs.declared.written.Item.{Item}
use Rattle.ba_sql_syntax.specs.declared.written.Item.TheVariants as items
use Rattle.ba_sql_syntax.specs.declared.written.Named.{Named}
use Rattle.ba_sql_syntax.specs.declared.written.Node.{Node}
use Rattle.ba_sql_syntax.specs.declared.written.Node.TheVariants as nodes
use Rattle.ba_sql_syntax.specs.declared.written.QueryText.{QueryText}
use Rattle.ba_sql_syntax.specs.declared.written.Select.{Select}
use Rattle.ba_sql_syntax.specs.declared.written.Side.{Side}
use Rattle.ba_sql_syntax.specs.declared.written.Side.TheVariants as sides
use Rattle.ba_sql_syntax.specs.declared.written.Source.{Source}
use Rattle.ba_sql_syntax.specs.declared.written.Test.{Test}
use Rattle.ba_sql_syntax.specs.declared.written.Test.TheVariants as tests
use Rattle.ba_sql_query.specs.Names.{called}
use Rattle.ba_sql_query.specs.Meaning.{kind_in}
use Rattle.ba_sql_query.specs.Parts.{alternatives, part_of, product, written_part}
use Rattle.ba_sql_query.specs.Resolve.{all_columns, source_columns}
use Rattle.ba_sql_query.specs.Texts.{query_of, query_of_words}
use Rattle.ba_sql_query.specs.declared.resolved.ResolvedNode.{ResolvedNode}
use Rattle.ba_sql_query.specs.declared.resolved.ResolvedNode.TheVariants as steps
use Rattle.ba_sql_query.specs.declared.resolved.ResolvedSelect.{ResolvedSelect}
use Rattle.ba_sql_query.specs.declared.resolved.ResolvedTest.{ResolvedTest}
use Rattle.ba_sql_query.specs.declared.resolved.ResolvedTest.TheVariants as resolved

-- ---- places in lists

-- what stands at a place is as P says
abbrev pub At : {X : Type 0} → (X → Type 0) → List X → ℕ → Type 0
At {X} P xs n = (x : X) × (slice_get xs n ≡ Some x) × P x

-- the first that is as P says stands at this place, whose number has 32 bits
pub record IsFirst {X : Type 0} (P : X → Type 0) (xs : List X) (n : ℕ) : Type 0 where
  pub here : At P xs n
  pub first : (k : ℕ) → k < n → At P xs k → ⊥
  pub bits : n < 2 ^ 32

-- the only one that is as P says
pub record IsOnly {X : Type 0} (P : X → Type 0) (xs : List X) (n : ℕ) : Type 0 where
  pub here : At P xs n
  pub only : (k : ℕ) → At P xs k → k ≡ n
  pub bits : n < 2 ^ 32

-- ---- names

-- the table of the schema that has the name, by its number
abbrev pub HasTable : Schema → List ℕ → ℕ → Type 0
HasTable schema name = IsFirst (λ table. table.name ≡ name) schema.tables

abbrev pub HasParam : List Parameter → List ℕ → ℕ → Type 0
HasParam params name = IsFirst (λ parameter. parameter.name ≡ name) params

-- the column of the table of this number that has the name
abbrev pub HasColumn : Schema → ℕ → List ℕ → ℕ → Type 0
HasColumn schema table name = IsFirst (λ column. column.name ≡ name) (columns_of schema.tables table)

-- the table of this number has a column of the name
abbrev pub HasSome : Schema → List ℕ → ℕ → Type 0
HasSome schema name table = (n : ℕ) × At (λ column. column.name ≡ name) (columns_of schema.tables table) n

-- the only source that is called so: by its alias, or by its table's name if it has none
abbrev pub IsCalled : List Source → List ℕ → ℕ → Type 0
IsCalled sources name = IsOnly (λ source. called source ≡ name) sources

-- a qualifier calls the source that is meant; without one it is the only source that has the column
abbrev pub IsMeant : Schema → List Source → List ℕ → Option (List ℕ) → List ℕ → ℕ → Type 0
IsMeant schema sources from None column = IsOnly (HasSome schema column) from
IsMeant schema sources from (Some qualifier) column = IsCalled sources qualifier

-- a column of the source that is meant; from are the numbers of the sources' tables
pub record IsColumn (schema : Schema) (sources : List Source) (from : List ℕ) (name : Named) (x : Operand) : Type 0 where
  pub place : ℕ
  pub table : ℕ
  pub number : ℕ
  pub meant : IsMeant schema sources from name.qualifier name.column place
  pub there : slice_get from place ≡ Some table
  pub column : HasColumn schema table name.column number
  pub is : x ≡ Col place number

-- ---- a select with its names as numbers

abbrev pub IsConstant : List Parameter → Constant → Operand → Type 0
IsConstant params (constants.Value v) x = x ≡ Val v
IsConstant params (constants.Param name) x = (n : ℕ) × HasParam params name n × (x ≡ Param n)

abbrev pub IsOperand : Schema → List Parameter → List Source → List ℕ → Side → Operand → Type 0
IsOperand schema params sources from (sides.Column name) x = IsColumn schema sources from name x
IsOperand schema params sources from (sides.Constant c) x = IsConstant params c x

-- name.* is all columns of that source
abbrev pub IsItem : Schema → List Parameter → List Source → List ℕ → Item → List Operand → Type 0
IsItem schema params sources from (items.AllOf name) xs = (place : ℕ) × IsCalled sources name place × (xs ≡ source_columns schema from place)
IsItem schema params sources from (items.One side) xs = (x : Operand) × IsOperand schema params sources from side x × (xs ≡ x ∷ [])

-- * is all columns of all sources
abbrev pub IsHead : Schema → List Parameter → List Source → List ℕ → Heads → List Operand → Type 0
IsHead schema params sources from heads.All xs = xs ≡ all_columns schema from
IsHead schema params sources from (heads.Items is) xs = (pieces : List (List Operand)) × AllZip (IsItem schema params sources from) is pieces × (flat_map (λ piece. piece) pieces ≡ xs)

-- the right side of IS NULL and IS NOT NULL repeats the left
abbrev pub IsTest : Schema → List Parameter → List Source → List ℕ → Test → ResolvedTest → Type 0
IsTest schema params sources from (tests.Compare op left right) t =
    (x : Operand) × (y : Operand) × IsOperand schema params sources from left x × IsOperand schema params sources from right y × (t ≡ resolved.One (record { op = op; left = x; right = y }))
IsTest schema params sources from (tests.Among side among) t =
    (x : Operand) × (ys : List Operand) × IsOperand schema params sources from side x × AllZip (IsConstant params) among ys × (t ≡ resolved.Among x ys)
IsTest schema params sources from (tests.Null op side) t =
    (x : Operand) × IsOperand schema params sources from side x × (t ≡ resolved.One (record { op = op; left = x; right = x }))

abbrev pub IsNode : Schema → List Parameter → List Source → List ℕ → Node → ResolvedNode → Type 0
IsNode schema params sources from (nodes.Test t) n = (r : ResolvedTest) × IsTest schema params sources from t r × (n ≡ steps.Test r)
IsNode schema params sources from nodes.And n = n ≡ steps.And
IsNode schema params sources from nodes.Or n = n ≡ steps.Or

-- each source is a table of the schema, and each name means what it says there
pub record IsSelectOf (schema : Schema) (params : List Parameter) (select : Select) (s : ResolvedSelect) : Type 0 where
  pub some_source : select.sources ≢ []
  pub from : AllZip (λ source n. HasTable schema source.table n) select.sources s.from
  pub head : IsHead schema params select.sources s.from select.heads s.head
  pub condition : AllZip (IsNode schema params select.sources s.from) select.condition s.condition

-- ---- the disjunctive form of a condition

pub data Tree : Type 0 where
  test : ResolvedTest → Tree
  both : Tree → Tree → Tree
  either : Tree → Tree → Tree

-- each operator behind its sides
abbrev pub nodes_of : Tree → List ResolvedNode
nodes_of (test t) = steps.Test t ∷ []
nodes_of (both a b) = nodes_of a ++ (nodes_of b ++ steps.And ∷ [])
nodes_of (either a b) = nodes_of a ++ (nodes_of b ++ steps.Or ∷ [])

-- a test: a member for each equation of an IN; A OR B: the members of A, then those of B; A AND B: for each member of A and each of B the atoms of both
abbrev pub dnf : Tree → List (List Atom)
dnf (test t) = alternatives t
dnf (both a b) = product (dnf a) (dnf b)
dnf (either a b) = dnf a ++ dnf b

-- no condition is one member without atoms
pub data HasForm : List ResolvedNode → List (List Atom) → Type 0 where
  none : HasForm [] ([] ∷ [])
  some : (tree : Tree) → HasForm (nodes_of tree) (dnf tree)

-- one part for each member
pub record HasParts (s : ResolvedSelect) (parts : List Part) : Type 0 where
  pub members : List (List Atom)
  pub form : HasForm s.condition members
  pub are : parts ≡ map (part_of s) members

-- ---- queries

-- the heads have the same kinds, of which there is one
pub record HaveOneHead (schema : Schema) (params : List Parameter) (selects : List ResolvedSelect) : Type 0 where
  pub kinds : List (Option Kind)
  pub some_kind : kinds ≢ []
  pub some_select : selects ≢ []
  pub heads : All (λ s. map (kind_in schema params s) s.head ≡ kinds) selects

-- The parts of the selects follow each other. The query as it is written, one part a select with all its tests, has no comparison of different
-- kinds and no order on texts; heads are alike; there is a part, and no count is above its limit.
pub record IsQueryOf (schema : Schema) (params : List Parameter) (text : QueryText) (q : Query) : Type 0 where
  pub selects : List ResolvedSelect
  pub names : AllZip (IsSelectOf schema params) text.selects selects
  pub parts : List (List Part)
  pub forms : AllZip HasParts selects parts
  pub made : q.parts ≡ flat_map (λ piece. piece) parts
  pub kinds : faults.Lacks drafts.KindDiffers schema (kinds_of params) [] (map written_part selects)
  pub orders : faults.Lacks drafts.OrderOnText schema (kinds_of params) [] (map written_part selects)
  pub heads : HaveOneHead schema params selects
  pub some_part : q.parts ≢ []
  pub few : faults.Lacks drafts.TooMany schema (kinds_of params) [] q.parts

-- the words have nothing that is unsupported, and the grammar spells a text so that means the query
pub record ReadsWords (schema : Schema) (params : List Parameter) (words : List Lexeme) (q : Query) : Type 0 where
  pub supported : IsSupported words
  pub written : QueryText
  pub form : IsQueryText written words
  pub means : IsQueryOf schema params written q

-- the text has at most most_query_bytes bytes, and its tokens say the words
pub record ReadsQuery (schema : Schema) (params : List Parameter) (text : List ℕ) (q : Query) : Type 0 where
  pub tokens : List Token
  pub are : tokens_of most_query_bytes text ≡ Ok tokens
  pub reads : ReadsWords schema params (lexemes_of tokens) q

-- words, and a text, are read as exactly what they read as
abbrev pub WordsReading : Type 0
WordsReading = (schema : Schema) (params : List Parameter) (words : List Lexeme) (q : Query) → (query_of_words schema params words ≡ Ok q) ↔ ReadsWords schema params words q

abbrev pub QueryReading : Type 0
QueryReading = (schema : Schema) (params : List Parameter) (text : List ℕ) (q : Query) → (query_of schema params text ≡ Ok q) ↔ ReadsQuery schema params text q

-- and as one at most
abbrev pub QueryIsUnique : Type 0
QueryIsUnique = (schema : Schema) (params : List Parameter) (text : List ℕ) (p q : Query) → ReadsQuery schema params text p → ReadsQuery schema params text q → p ≡ q
