-- The text of a query: SQL that reads back as the query.
use Rattle.std.specs.Prelude.{ℕ, suc, List, [], ◌∷◌, ◌++◌, ◌==◌, if◌then◌else◌, length, map, codes, Option, option_and_then, option_map, slice_get, unwrap_or}
use Rattle.std.specs.Fmt.{decimal, signed_decimal}
use Rattle.std.specs.List.{join_by}
use Rattle.ba_lex.specs.Spelling.{doubled}
use Rattle.ba_model.specs.declared.policy.Parameter.{Parameter}
use Rattle.ba_model.specs.declared.query.Atom.{Atom}
use Rattle.ba_model.specs.declared.query.Op.{Op}
use Rattle.ba_model.specs.declared.query.Op.TheVariants.{Eq, Ne, Lt, Le, IsNull, NotNull}
use Rattle.ba_model.specs.declared.query.Operand.{Operand}
use Rattle.ba_model.specs.declared.query.Operand.TheVariants.{Col, Val, Param, Var}
use Rattle.ba_model.specs.declared.query.Part.{Part}
use Rattle.ba_model.specs.declared.query.Query.{Query}
use Rattle.ba_model.specs.declared.schema.Column.{Column}
use Rattle.ba_model.specs.declared.schema.Schema.{Schema}
use Rattle.ba_model.specs.declared.value.Value.{Value}
use Rattle.ba_model.specs.declared.value.Value.TheVariants.{Null, Int, Text}

-- the texts with one between each two
abbrev pub joined : List ℕ → List (List ℕ) → List ℕ
joined between texts = join_by (λ text. text) between texts

-- ---- names; what isn't there has none

unfoldable pub table_name : Schema → ℕ → List ℕ
table_name schema table = unwrap_or (option_map (λ it. it.name) (slice_get schema.tables table)) []

-- a column of a part's source: from numbers the tables
abbrev pub column_at : Schema → List ℕ → ℕ → ℕ → Option Column
column_at schema from place column =
    option_and_then (λ table. option_and_then (λ it. slice_get it.columns column) (slice_get schema.tables table)) (slice_get from place)

unfoldable pub column_name : Schema → List ℕ → ℕ → ℕ → List ℕ
column_name schema from place column = unwrap_or (option_map (λ it. it.name) (column_at schema from place column)) []

unfoldable pub param_name : List Parameter → ℕ → List ℕ
param_name params n = unwrap_or (option_map (λ it. it.name) (slice_get params n)) []

-- a name in double quotes
abbrev pub quoted : List ℕ → List ℕ
quoted name = codes "\"" ++ (name ++ codes "\"")

-- t0, t1 and so on: what a part's source is called
abbrev pub source_name : ℕ → List ℕ
source_name place = codes "t" ++ decimal place

-- ---- operands and atoms

-- a text in quotes, those inside doubled
unfoldable pub value_text : Value → List ℕ
value_text Null = codes "NULL"
value_text (Int n) = signed_decimal n
value_text (Text text) = codes "'" ++ (doubled text ++ codes "'")

unfoldable pub operand_text : Schema → List Parameter → List ℕ → Operand → List ℕ
operand_text schema params from (Col place column) = source_name place ++ (codes "." ++ quoted (column_name schema from place column))
operand_text schema params from (Val v) = value_text v
operand_text schema params from (Param n) = codes "?" ++ param_name params n
operand_text schema params from (Var n) = []

unfoldable pub compared_text : Op → List ℕ → List ℕ → List ℕ
compared_text Eq left right = left ++ (codes " = " ++ right)
compared_text Ne left right = left ++ (codes " <> " ++ right)
compared_text Lt left right = left ++ (codes " < " ++ right)
compared_text Le left right = left ++ (codes " <= " ++ right)
compared_text IsNull left right = left ++ codes " IS NULL"
compared_text NotNull left right = left ++ codes " IS NOT NULL"

unfoldable pub atom_text : Schema → List Parameter → List ℕ → Atom → List ℕ
atom_text schema params from atom = compared_text atom.op (operand_text schema params from atom.left) (operand_text schema params from atom.right)

-- ---- parts

-- a table and what it is called
unfoldable pub source_text : Schema → ℕ → ℕ → List ℕ
source_text schema place table = codes "\"" ++ (table_name schema table ++ (codes "\" " ++ source_name place))

-- the sources from a place on
abbrev pub sources_from : Schema → ℕ → List ℕ → List (List ℕ)
sources_from schema place [] = []
sources_from schema place (table ∷ tables) = source_text schema place table ∷ sources_from schema (suc place) tables

unfoldable pub heads_text : Schema → List Parameter → List ℕ → List Operand → List ℕ
heads_text schema params from head = joined (codes ", ") (map (operand_text schema params from) head)

unfoldable pub from_text : Schema → List ℕ → List ℕ
from_text schema from = joined (codes ", ") (sources_from schema 0 from)

unfoldable pub conditions_text : Schema → List Parameter → List ℕ → List Atom → List ℕ
conditions_text schema params from atoms = joined (codes " AND ") (map (atom_text schema params from) atoms)

-- nothing where there is no atom
unfoldable pub where_text : Schema → List Parameter → List ℕ → List Atom → List ℕ
where_text schema params from atoms = if length atoms == 0 then [] else codes " WHERE " ++ conditions_text schema params from atoms

unfoldable pub part_text : Schema → List Parameter → Part → List ℕ
part_text schema params part =
    codes "SELECT " ++ (heads_text schema params part.from part.head
    ++ (codes " FROM " ++ (from_text schema part.from ++ where_text schema params part.from part.conds)))

unfoldable pub query_text : Schema → List Parameter → Query → List ℕ
query_text schema params query = joined (codes " UNION ") (map (part_text schema params) query.parts)
