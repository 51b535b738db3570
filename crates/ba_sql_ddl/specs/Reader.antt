-- Tables, and inclusion rules, read from the left.
use Rattle.std.specs.Prelude.{ℕ, zero, suc, ℤ, Bool, ◌||◌, ◌&&◌, List, [], ◌∷◌, length, Option, Some, None, Result, Ok, Err, codes, if◌then◌else◌}
use Rattle.ba_model.specs.Readings.{◌>>=◌}
use Rattle.ba_grammar.specs.Front.{Read, all, begins, is_keyword, is_sign, listed, name_at, number_at, past, syntax}
use Rattle.ba_grammar.specs.declared.error.Syntax.{Syntax}
use Rattle.ba_lex.specs.declared.token.Lexeme.{Lexeme}
use Rattle.ba_lex.specs.declared.token.Sign.TheVariants.{LeftParen, RightParen, Semicolon, Comma}
use Rattle.ba_sql_ddl.specs.Brackets.{from_close, inside}
use Rattle.ba_sql_ddl.specs.Written.{InclusionText, StatementText, WrittenSchema, reserved, text_in, with_inclusion, with_statement, with_table}
use Rattle.ba_sql_ddl.specs.Written.StatementText.{inclusion as an_inclusion, table as a_table}
use Rattle.ba_sql_ddl.specs.declared.written.ColumnRule.{ColumnRule}
use Rattle.ba_sql_ddl.specs.declared.written.ColumnRule.TheVariants.{NotNull, Null, PrimaryKey, Unique, References}
use Rattle.ba_sql_ddl.specs.declared.written.ColumnText.{ColumnText}
use Rattle.ba_sql_ddl.specs.declared.written.Constraint.{Constraint}
use Rattle.ba_sql_ddl.specs.declared.written.TableItem.{TableItem}
use Rattle.ba_sql_ddl.specs.declared.written.TableItem.TheVariants.{Column, Constraint as ConstraintItem}
use Rattle.ba_sql_ddl.specs.declared.written.TableRule.{TableRule}
use Rattle.ba_sql_ddl.specs.declared.written.TableRule.TheVariants as table_rules
use Rattle.ba_sql_ddl.specs.declared.written.TableText.{TableText}
use Rattle.ba_sql_ddl.specs.declared.written.TypeText.{TypeText}
use Rattle.ba_sql_ddl.specs.declared.written.TypeWord.{TypeWord}
use Rattle.ba_sql_ddl.specs.declared.written.TypeWord.TheVariants.{Int, Integer, BigInt, SmallInt, Text, VarChar, Char}

abbrev pub ddl_name_at : List Lexeme → Read (List ℕ)
ddl_name_at = name_at reserved

unfoldable pub names_at : List Lexeme → Read (List (List ℕ))
names_at words = do
  rest ← past (is_sign LeftParen) words
  names ← listed (is_sign Comma) ddl_name_at rest
  rest ← past (is_sign RightParen) names.1
  Ok (names.0, rest)

-- ---- a type

unfoldable pub size_at : List Lexeme → Read (Option ℤ)
size_at words =
    if begins (is_sign LeftParen) words then (do
      rest ← past (is_sign LeftParen) words
      number ← number_at rest
      rest ← past (is_sign RightParen) number.1
      Ok (Some number.0, rest))
    else Ok (None, words)

abbrev pub type_word_of : Lexeme → List Lexeme → Read TypeWord
type_word_of x rest =
    if is_keyword (codes "INT") x then Ok (Int, rest)
    else (if is_keyword (codes "INTEGER") x then Ok (Integer, rest)
    else (if is_keyword (codes "BIGINT") x then Ok (BigInt, rest)
    else (if is_keyword (codes "SMALLINT") x then Ok (SmallInt, rest)
    else (if is_keyword (codes "TEXT") x then Ok (Text, rest)
    else (if is_keyword (codes "VARCHAR") x then Ok (VarChar, rest)
    else (if is_keyword (codes "CHAR") x then Ok (Char, rest)
    else Err syntax))))))

unfoldable pub type_word_at : List Lexeme → Read TypeWord
type_word_at [] = Err syntax
type_word_at (x ∷ xs) = type_word_of x xs

unfoldable pub type_at : List Lexeme → Read TypeText
type_at words = do
  word ← type_word_at words
  size ← size_at word.1
  Ok (record { word = word.0; size = size.0 }, size.1)

-- ---- a column

-- what a rule of a column begins with
abbrev pub is_rule_word : Lexeme → Bool
is_rule_word x = is_keyword (codes "NOT") x || is_keyword (codes "NULL") x || is_keyword (codes "PRIMARY") x || is_keyword (codes "UNIQUE") x || is_keyword (codes "REFERENCES") x

unfoldable pub references_at : List Lexeme → Read ColumnRule
references_at words = do
  rest ← past (is_keyword (codes "REFERENCES")) words
  table ← ddl_name_at rest
  targets ← names_at table.1
  Ok (References table.0 targets.0, targets.1)

unfoldable pub not_null_at : List Lexeme → Read ColumnRule
not_null_at words = do
  rest ← past (is_keyword (codes "NOT")) words
  rest ← past (is_keyword (codes "NULL")) rest
  Ok (NotNull, rest)

unfoldable pub primary_key_at : List Lexeme → Read ColumnRule
primary_key_at words = do
  rest ← past (is_keyword (codes "PRIMARY")) words
  rest ← past (is_keyword (codes "KEY")) rest
  Ok (PrimaryKey, rest)

unfoldable pub rule_at : List Lexeme → Read ColumnRule
rule_at words =
    if begins (is_keyword (codes "NOT")) words then not_null_at words
    else (if begins (is_keyword (codes "NULL")) words then (past (is_keyword (codes "NULL")) words >>= λ rest. Ok (Null, rest))
    else (if begins (is_keyword (codes "PRIMARY")) words then primary_key_at words
    else (if begins (is_keyword (codes "UNIQUE")) words then (past (is_keyword (codes "UNIQUE")) words >>= λ rest. Ok (Unique, rest))
    else references_at words)))

-- as long as a rule begins; there are at most fuel of them
unfoldable pub rules_at : ℕ → List Lexeme → Read (List ColumnRule)
rules_at zero words = Ok ([], words)
rules_at (suc fuel) words =
    if begins is_rule_word words then (rule_at words >>= λ x. (rules_at fuel x.1 >>= λ y. Ok (x.0 ∷ y.0, y.1)))
    else Ok ([], words)

unfoldable pub column_at : List Lexeme → Read ColumnText
column_at words = do
  name ← ddl_name_at words
  type_text ← type_at name.1
  rules ← rules_at (length words) type_text.1
  Ok (record { name = name.0; type_text = type_text.0; rules = rules.0 }, rules.1)

-- ---- a rule of the table

unfoldable pub primary_at : List Lexeme → Read TableRule
primary_at words = do
  rest ← past (is_keyword (codes "PRIMARY")) words
  rest ← past (is_keyword (codes "KEY")) rest
  columns ← names_at rest
  Ok (table_rules.PrimaryKey columns.0, columns.1)

unfoldable pub unique_at : List Lexeme → Read TableRule
unique_at words = do
  rest ← past (is_keyword (codes "UNIQUE")) words
  columns ← names_at rest
  Ok (table_rules.Unique columns.0, columns.1)

unfoldable pub foreign_at : List Lexeme → Read TableRule
foreign_at words = do
  rest ← past (is_keyword (codes "FOREIGN")) words
  rest ← past (is_keyword (codes "KEY")) rest
  columns ← names_at rest
  rest ← past (is_keyword (codes "REFERENCES")) columns.1
  table ← ddl_name_at rest
  targets ← names_at table.1
  Ok (table_rules.ForeignKey columns.0 table.0 targets.0, targets.1)

unfoldable pub table_rule_at : List Lexeme → Read TableRule
table_rule_at words =
    if begins (is_keyword (codes "PRIMARY")) words then primary_at words
    else (if begins (is_keyword (codes "UNIQUE")) words then unique_at words
    else foreign_at words)

unfoldable pub label_at : List Lexeme → Read (Option (List ℕ))
label_at words =
    if begins (is_keyword (codes "CONSTRAINT")) words then (do
      rest ← past (is_keyword (codes "CONSTRAINT")) words
      label ← ddl_name_at rest
      Ok (Some label.0, label.1))
    else Ok (None, words)

unfoldable pub constraint_at : List Lexeme → Read Constraint
constraint_at words = do
  label ← label_at words
  rule ← table_rule_at label.1
  Ok (record { label = label.0; rule = rule.0 }, rule.1)

-- ---- a table

-- what a rule of a table begins with
abbrev pub is_constraint_word : Lexeme → Bool
is_constraint_word x = is_keyword (codes "CONSTRAINT") x || is_keyword (codes "PRIMARY") x || is_keyword (codes "UNIQUE") x || is_keyword (codes "FOREIGN") x

unfoldable pub item_at : List Lexeme → Read TableItem
item_at words =
    if begins is_constraint_word words then (constraint_at words >>= λ c. Ok (ConstraintItem c.0, c.1))
    else (column_at words >>= λ c. Ok (Column c.0, c.1))

unfoldable pub table_at : List Lexeme → Read TableText
table_at words = do
  rest ← past (is_keyword (codes "CREATE")) words
  rest ← past (is_keyword (codes "TABLE")) rest
  name ← ddl_name_at rest
  rest ← past (is_sign LeftParen) name.1
  items ← listed (is_sign Comma) item_at rest
  rest ← past (is_sign RightParen) items.1
  rest ← past (is_sign Semicolon) rest
  Ok (record { name = name.0; items = items.0 }, rest)

-- ---- an inclusion rule

-- the words behind RULE "("
unfoldable pub behind_rule : List Lexeme → Option (List Lexeme)
behind_rule [] = None
behind_rule (x ∷ []) = None
behind_rule (x ∷ y ∷ rest) = if is_keyword (codes "RULE") x && is_sign LeftParen y then Some rest else None

-- the words behind ")" WITHIN "("
unfoldable pub behind_within : List Lexeme → Option (List Lexeme)
behind_within [] = None
behind_within (x ∷ []) = None
behind_within (x ∷ y ∷ []) = None
behind_within (x ∷ y ∷ z ∷ rest) = if is_sign RightParen x && (is_keyword (codes "WITHIN") y && is_sign LeftParen z) then Some rest else None

-- the words behind ")" ";"
unfoldable pub behind_end : List Lexeme → Option (List Lexeme)
behind_end [] = None
behind_end (x ∷ []) = None
behind_end (x ∷ y ∷ rest) = if is_sign RightParen x && is_sign Semicolon y then Some rest else None

abbrev pub or_syntax : Option (List Lexeme) → Result (List Lexeme) Syntax
or_syntax None = Err syntax
or_syntax (Some rest) = Ok rest

unfoldable pub inclusion_at : List Lexeme → Read InclusionText
inclusion_at words = do
  left ← or_syntax (behind_rule words)
  right ← or_syntax (behind_within (from_close left))
  rest ← or_syntax (behind_end (from_close right))
  Ok (record { left = inside left; right = inside right }, rest)

-- ---- statements

unfoldable pub statement_at : List Lexeme → Read StatementText
statement_at words =
    if begins (is_keyword (codes "RULE")) words then (inclusion_at words >>= λ i. Ok (an_inclusion i.0, i.1))
    else (table_at words >>= λ t. Ok (a_table t.0, t.1))

-- the same, added to what was read before
abbrev pub inclusion_added : WrittenSchema → List Lexeme → Read WrittenSchema
inclusion_added w words = inclusion_at words >>= λ i. Ok (with_inclusion w i.0, i.1)

abbrev pub table_added : WrittenSchema → List Lexeme → Read WrittenSchema
table_added w words = table_at words >>= λ t. Ok (with_table w t.0, t.1)

abbrev pub statement_added : WrittenSchema → List Lexeme → Read WrittenSchema
statement_added w words = statement_at words >>= λ s. Ok (with_statement w s.0, s.1)

abbrev pub statements_at : List Lexeme → Result (List StatementText) Syntax
statements_at words = all statement_at (length words) words

-- all of the words as statements: the tables and the inclusion rules
unfoldable pub text_at : List Lexeme → Result WrittenSchema Syntax
text_at words = statements_at words >>= λ ss. Ok (text_in ss)
