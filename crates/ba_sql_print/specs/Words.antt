-- The words that the text of a query has.
use Rattle.std.specs.Prelude.{ℕ, suc, List, [], ◌∷◌, ◌++◌, map, codes}
use Rattle.std.specs.List.{join_by}
use Rattle.ba_lex.specs.declared.token.Lexeme.{Lexeme}
use Rattle.ba_lex.specs.declared.token.Lexeme.TheVariants as lexemes
use Rattle.ba_lex.specs.declared.token.Sign.TheVariants.{Comma, Dot, Equal, NotEqual, Less, LessEqual}
use Rattle.ba_model.specs.declared.policy.Parameter.{Parameter}
use Rattle.ba_model.specs.declared.query.Atom.{Atom}
use Rattle.ba_model.specs.declared.query.Op.{Op}
use Rattle.ba_model.specs.declared.query.Op.TheVariants.{Eq, Ne, Lt, Le, IsNull, NotNull}
use Rattle.ba_model.specs.declared.query.Operand.{Operand}
use Rattle.ba_model.specs.declared.query.Operand.TheVariants.{Col, Val, Param, Var}
use Rattle.ba_model.specs.declared.query.Part.{Part}
use Rattle.ba_model.specs.declared.query.Query.{Query}
use Rattle.ba_model.specs.declared.schema.Schema.{Schema}
use Rattle.ba_model.specs.declared.value.Value.{Value}
use Rattle.ba_model.specs.declared.value.Value.TheVariants.{Null, Int, Text}
use Rattle.ba_sql_print.specs.Printed.{column_name, param_name, source_name, table_name}

-- the words with one between each two groups
abbrev pub joined_words : Lexeme → List (List Lexeme) → List Lexeme
joined_words between groups = join_by (λ group. group) (between ∷ []) groups

abbrev pub keyword : List ℕ → Lexeme
keyword text = lexemes.Word text

unfoldable pub value_words : Value → List Lexeme
value_words Null = keyword (codes "NULL") ∷ []
value_words (Int n) = lexemes.Number n ∷ []
value_words (Text text) = lexemes.Text text ∷ []

unfoldable pub operand_words : Schema → List Parameter → List ℕ → Operand → List Lexeme
operand_words schema params from (Col place column) =
    lexemes.Word (source_name place) ∷ lexemes.Sign Dot ∷ lexemes.Quoted (column_name schema from place column) ∷ []
operand_words schema params from (Val v) = value_words v
operand_words schema params from (Param n) = lexemes.Param (param_name params n) ∷ []
operand_words schema params from (Var n) = []

unfoldable pub compared_words : Op → List Lexeme → List Lexeme → List Lexeme
compared_words Eq left right = left ++ lexemes.Sign Equal ∷ right
compared_words Ne left right = left ++ lexemes.Sign NotEqual ∷ right
compared_words Lt left right = left ++ lexemes.Sign Less ∷ right
compared_words Le left right = left ++ lexemes.Sign LessEqual ∷ right
compared_words IsNull left right = left ++ keyword (codes "IS") ∷ keyword (codes "NULL") ∷ []
compared_words NotNull left right = left ++ keyword (codes "IS") ∷ keyword (codes "NOT") ∷ keyword (codes "NULL") ∷ []

unfoldable pub atom_words : Schema → List Parameter → List ℕ → Atom → List Lexeme
atom_words schema params from atom = compared_words atom.op (operand_words schema params from atom.left) (operand_words schema params from atom.right)

unfoldable pub source_words : Schema → ℕ → ℕ → List Lexeme
source_words schema place table = lexemes.Quoted (table_name schema table) ∷ lexemes.Word (source_name place) ∷ []

abbrev pub source_words_from : Schema → ℕ → List ℕ → List (List Lexeme)
source_words_from schema place [] = []
source_words_from schema place (table ∷ tables) = source_words schema place table ∷ source_words_from schema (suc place) tables

unfoldable pub heads_words : Schema → List Parameter → List ℕ → List Operand → List Lexeme
heads_words schema params from head = joined_words (lexemes.Sign Comma) (map (operand_words schema params from) head)

unfoldable pub from_words : Schema → List ℕ → List Lexeme
from_words schema from = joined_words (lexemes.Sign Comma) (source_words_from schema 0 from)

-- nothing where there is no atom
unfoldable pub where_words : Schema → List Parameter → List ℕ → List Atom → List Lexeme
where_words schema params from [] = []
where_words schema params from (atom ∷ atoms) =
    keyword (codes "WHERE") ∷ joined_words (keyword (codes "AND")) (map (atom_words schema params from) (atom ∷ atoms))

unfoldable pub part_words : Schema → List Parameter → Part → List Lexeme
part_words schema params part =
    keyword (codes "SELECT") ∷ (heads_words schema params part.from part.head
    ++ keyword (codes "FROM") ∷ (from_words schema part.from ++ where_words schema params part.from part.conds))

unfoldable pub query_words : Schema → List Parameter → Query → List Lexeme
query_words schema params query = joined_words (keyword (codes "UNION")) (map (part_words schema params) query.parts)
