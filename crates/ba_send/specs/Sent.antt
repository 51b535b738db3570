-- The text that is sent to a database for a query under a context: pieces with one blank between
-- each two.
use Rattle.std.specs.Prelude.{ℕ, suc, Bool, false, true, ◌&&◌, nat_lt, List, [], ◌∷◌, ◌++◌, length, map, codes, Option, Some, None, if◌then◌else◌}
use Rattle.std.specs.Fmt.{signed_decimal}
use Rattle.std.specs.List.{flat_map, join_by}
use Rattle.ba_keys.specs.Literals.{query_with}
use Rattle.ba_lex.specs.Spelling.{doubled, sign_bytes}
use Rattle.ba_lex.specs.declared.token.Lexeme.{Lexeme}
use Rattle.ba_lex.specs.declared.token.Lexeme.TheVariants as lexemes
use Rattle.ba_lex.specs.declared.token.Sign.{Sign}
use Rattle.ba_lex.specs.declared.token.Sign.TheVariants.{LeftParen, RightParen, Comma, Dot, Equal, NotEqual, Less, LessEqual}
use Rattle.ba_model.specs.declared.policy.Context.{Context}
use Rattle.ba_model.specs.declared.query.Atom.{Atom}
use Rattle.ba_model.specs.declared.query.Op.{Op}
use Rattle.ba_model.specs.declared.query.Op.TheVariants.{Eq, Ne, Lt, Le, IsNull, NotNull}
use Rattle.ba_model.specs.declared.query.Operand.{Operand}
use Rattle.ba_model.specs.declared.query.Operand.TheVariants.{Col, Val, Param, Var}
use Rattle.ba_model.specs.declared.query.Part.{Part}
use Rattle.ba_model.specs.declared.query.Query.{Query}
use Rattle.ba_model.specs.declared.schema.Schema.{Schema}
use Rattle.ba_model.specs.declared.value.Value.{Value}
use Rattle.ba_model.specs.declared.value.Value.TheVariants.{Null, Int, Text}
use Rattle.ba_sql_print.specs.Printed.{column_name, source_name, table_name}
use Rattle.ba_target.specs.declared.target.Database.{Database}
use Rattle.ba_target.specs.declared.target.Database.TheVariants.{PostgreSql, Sqlite, MySql}
use Rattle.ba_target.specs.declared.target.Target.{Target}
use Rattle.ba_send.specs.Texts.{has_backslash, hex, is_plain, slashed}

-- each parameter replaced by its value in the context, as a literal
abbrev pub closed : Context → Query → Query
closed context query = query_with 0 context.values query

-- ---- pieces: lexemes with no blank between them

abbrev pub Piece : Type 0
Piece = List Lexeme

abbrev pub word : List ℕ → Piece
word text = lexemes.Word text ∷ []

abbrev pub sign : Sign → Piece
sign it = lexemes.Sign it ∷ []

-- what stands round a name
abbrev pub name_quote : Database → List ℕ
name_quote PostgreSql = codes "\""
name_quote Sqlite = codes "\""
name_quote MySql = codes "`"

-- in a text, each quote is doubled
abbrev pub lexeme_text : Database → Lexeme → List ℕ
lexeme_text database (lexemes.Word text) = text
lexeme_text database (lexemes.Quoted name) =
    name_quote database ++ (name ++ name_quote database)
lexeme_text database (lexemes.Number n) = signed_decimal n
lexeme_text database (lexemes.Text text) = codes "'" ++ (doubled text ++ codes "'")
lexeme_text database (lexemes.Param name) = codes "?" ++ name
lexeme_text database (lexemes.Sign it) = sign_bytes it

abbrev pub piece_text : Database → Piece → List ℕ
piece_text database piece = flat_map (lexeme_text database) piece

-- each piece behind a blank
unfoldable pub pieces_text : Database → List Piece → List ℕ
pieces_text database pieces = flat_map (λ piece. codes " " ++ piece_text database piece) pieces

-- groups of pieces, each behind this one
abbrev pub following : Piece → List (List Piece) → List Piece
following between groups = flat_map (λ group. between ∷ group) groups

-- groups of pieces, with this one between each two
unfoldable pub joined : Piece → List (List Piece) → List Piece
joined between [] = []
joined between (group ∷ groups) = group ++ following between groups

-- ---- values

-- the bytes of a text
abbrev pub hex_piece : List ℕ → Piece
hex_piece text = lexemes.Word (codes "X") ∷ lexemes.Text (hex text) ∷ []

-- Where exact, MySQL is to compare the text byte by byte.
unfoldable pub text_pieces : Database → Bool → List ℕ → List Piece
text_pieces PostgreSql exact text =
    if has_backslash text
    then (lexemes.Word (codes "E") ∷ lexemes.Text (slashed text) ∷ []) ∷ []
    else (lexemes.Text text ∷ []) ∷ []
text_pieces Sqlite exact text = (lexemes.Text text ∷ []) ∷ []
text_pieces MySql exact text =
    if exact then hex_piece text ∷ []
    else (if is_plain text then (lexemes.Text text ∷ []) ∷ []
    else word (codes "_utf8mb4") ∷ hex_piece text ∷ [])

unfoldable pub value_pieces : Database → Bool → Value → List Piece
value_pieces database exact Null = word (codes "NULL") ∷ []
value_pieces database exact (Int n) = (lexemes.Number n ∷ []) ∷ []
value_pieces database exact (Text text) = text_pieces database exact text

-- nothing where there is none
abbrev pub literal_pieces : Database → Bool → Option Value → List Piece
literal_pieces database exact None = []
literal_pieces database exact (Some value) = value_pieces database exact value

-- ---- operands of a part with these tables, and its atoms

abbrev pub column_piece : Schema → List ℕ → ℕ → ℕ → Piece
column_piece schema from place column =
    lexemes.Word (source_name place) ∷ lexemes.Sign Dot
    ∷ lexemes.Quoted (column_name schema from place column) ∷ []

unfoldable pub operand_pieces : Database → Schema → List ℕ → Bool → Operand → List Piece
operand_pieces database schema from exact (Col place column) =
    column_piece schema from place column ∷ []
operand_pieces database schema from exact (Val value) = value_pieces database exact value
operand_pieces database schema from exact (Param n) = []
operand_pieces database schema from exact (Var n) = []

abbrev pub literal_of : Operand → Option Value
literal_of (Col place column) = None
literal_of (Val value) = Some value
literal_of (Param n) = None
literal_of (Var n) = None

abbrev pub is_text : Operand → Bool
is_text (Val Null) = false
is_text (Val (Int n)) = false
is_text (Val (Text text)) = true
is_text (Col place column) = false
is_text (Param n) = false
is_text (Var n) = false

unfoldable pub sign_pieces : Op → List Piece
sign_pieces Eq = sign Equal ∷ []
sign_pieces Ne = sign NotEqual ∷ []
sign_pieces Lt = sign Less ∷ []
sign_pieces Le = sign LessEqual ∷ []
sign_pieces IsNull = word (codes "IS") ∷ word (codes "NULL") ∷ []
sign_pieces NotNull = word (codes "IS") ∷ word (codes "NOT") ∷ word (codes "NULL") ∷ []

-- IS NULL and IS NOT NULL have no right side
abbrev pub if_right : Op → List Piece → List Piece
if_right Eq right = right
if_right Ne right = right
if_right Lt right = right
if_right Le right = right
if_right IsNull right = []
if_right NotNull right = []

-- two texts are compared byte by byte
abbrev pub is_exact : Atom → Bool
is_exact atom = is_text atom.left && is_text atom.right

-- in brackets
unfoldable pub atom_pieces : Database → Schema → List ℕ → Atom → List Piece
atom_pieces database schema from atom =
    sign LeftParen ∷ (operand_pieces database schema from (is_exact atom) atom.left
    ++ (sign_pieces atom.op
    ++ (if_right atom.op (operand_pieces database schema from (is_exact atom) atom.right)
    ++ sign RightParen ∷ [])))

-- ---- parts

-- in the namespace, if there is one
abbrev pub table_in : Option (List ℕ) → List ℕ → Piece
table_in None name = lexemes.Quoted name ∷ []
table_in (Some namespace) name =
    lexemes.Quoted namespace ∷ lexemes.Sign Dot ∷ lexemes.Quoted name ∷ []

-- a table and what it is called
unfoldable pub source_pieces : Target → Schema → ℕ → ℕ → List Piece
source_pieces target schema place table =
    table_in target.namespace (table_name schema table) ∷ word (source_name place) ∷ []

-- the sources from a place on
abbrev pub sources_from : Target → Schema → ℕ → List ℕ → List (List Piece)
sources_from target schema place [] = []
sources_from target schema place (table ∷ tables) =
    source_pieces target schema place table ∷ sources_from target schema (suc place) tables

unfoldable pub heads_pieces : Database → Schema → List ℕ → Bool → List Operand → List Piece
heads_pieces database schema from exact head =
    joined (sign Comma) (map (operand_pieces database schema from exact) head)

unfoldable pub from_pieces : Target → Schema → List ℕ → List Piece
from_pieces target schema from = joined (sign Comma) (sources_from target schema 0 from)

-- nothing where there is no atom
unfoldable pub where_pieces : Database → Schema → List ℕ → List Atom → List Piece
where_pieces database schema from [] = []
where_pieces database schema from (atom ∷ atoms) =
    word (codes "WHERE")
    ∷ joined (word (codes "AND")) (map (atom_pieces database schema from) (atom ∷ atoms))

-- UNION makes a set of its rows; a part alone says so
abbrev pub distinct_pieces : Bool → List Piece
distinct_pieces false = word (codes "DISTINCT") ∷ []
distinct_pieces true = []

-- what follows a part's SELECT, where several says whether the query has more parts
unfoldable pub selected_pieces : Target → Schema → Bool → Part → List Piece
selected_pieces target schema several part =
    distinct_pieces several
    ++ (heads_pieces target.database schema part.from several part.head
    ++ word (codes "FROM") ∷ (from_pieces target schema part.from
    ++ where_pieces target.database schema part.from part.conds))

abbrev pub part_pieces : Target → Schema → Bool → Part → List Piece
part_pieces target schema several part =
    word (codes "SELECT") ∷ selected_pieces target schema several part

-- ---- the text

abbrev pub has_several : Query → Bool
has_several query = nat_lt 1 (length query.parts)

unfoldable pub query_pieces : Target → Schema → Query → List Piece
query_pieces target schema query =
    joined (word (codes "UNION")) (map (part_pieces target schema (has_several query)) query.parts)

unfoldable pub sent_bytes : Target → Schema → Context → Query → List ℕ
sent_bytes target schema context query =
    join_by (piece_text target.database) (codes " ")
    (query_pieces target schema (closed context query))

-- the most that is sent
abbrev pub most_sent_bytes : ℕ
most_sent_bytes = 1048576
