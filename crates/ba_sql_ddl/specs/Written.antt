-- The grammar of schemas: which words spell a written table, and which an inclusion rule.
use Rattle.std.specs.Prelude.{◌≡◌, ◌≢◌, ℕ, ℤ, List, [], ◌∷◌, ◌++◌, map, All, Option, Some, None, codes}
use Rattle.std.specs.List.{flat_map}
use Rattle.ba_grammar.specs.Items.{AreSpelled, Item, with_commas}
use Rattle.ba_grammar.specs.Items.Item.{keyword, name, number, sign}
use Rattle.ba_lex.specs.declared.token.Lexeme.{Lexeme}
use Rattle.ba_lex.specs.declared.token.Sign.TheVariants.{LeftParen, RightParen, Semicolon}
use Rattle.ba_sql_ddl.specs.Brackets.{AreBalanced}
use Rattle.ba_sql_ddl.specs.declared.statement.Inclusion.{Inclusion}
use Rattle.ba_sql_ddl.specs.declared.statement.SchemaText.{SchemaText}
use Rattle.ba_sql_ddl.specs.declared.written.ColumnRule.{ColumnRule}
use Rattle.ba_sql_ddl.specs.declared.written.ColumnRule.TheVariants.{NotNull, Null, PrimaryKey, Unique, References}
use Rattle.ba_sql_ddl.specs.declared.written.ColumnText.{ColumnText}
use Rattle.ba_sql_ddl.specs.declared.written.Constraint.{Constraint}
use Rattle.ba_sql_ddl.specs.declared.written.TableItem.{TableItem}
use Rattle.ba_sql_ddl.specs.declared.written.TableItem.TheVariants.{Column, Constraint as ConstraintItem}
use Rattle.ba_sql_ddl.specs.declared.written.TableRule.{TableRule}
use Rattle.ba_sql_ddl.specs.declared.written.TableRule.TheVariants as table_rules
use Rattle.ba_sql_ddl.specs.declared.written.TableText.{TableText}
use Rattle.ba_sql_ddl.specs.declared.written.TypeText.{TypeText}
use Rattle.ba_sql_ddl.specs.declared.written.TypeWord.{TypeWord}
use Rattle.ba_sql_ddl.specs.declared.written.TypeWord.TheVariants.{Int, Integer, BigInt, SmallInt, Text, VarChar, Char}

-- the words that a schema may not have, in any case
abbrev pub unsupported : List (List ℕ)
unsupported =
    codes "DEFAULT" ∷ codes "CHECK" ∷ codes "INDEX" ∷ codes "ENGINE" ∷ codes "AUTO_INCREMENT" ∷ codes "AUTOINCREMENT" ∷ codes "ON" ∷ codes "CASCADE"
    ∷ codes "ALTER" ∷ codes "DROP" ∷ codes "INSERT" ∷ codes "TEMPORARY" ∷ codes "IF" ∷ []

-- the words that a name may not be unless it is quoted: those, and the keywords
abbrev pub reserved : List (List ℕ)
reserved =
    codes "DEFAULT" ∷ codes "CHECK" ∷ codes "INDEX" ∷ codes "ENGINE" ∷ codes "AUTO_INCREMENT" ∷ codes "AUTOINCREMENT" ∷ codes "ON" ∷ codes "CASCADE"
    ∷ codes "ALTER" ∷ codes "DROP" ∷ codes "INSERT" ∷ codes "TEMPORARY" ∷ codes "IF" ∷ codes "CREATE" ∷ codes "TABLE" ∷ codes "NOT" ∷ codes "NULL"
    ∷ codes "PRIMARY" ∷ codes "KEY" ∷ codes "UNIQUE" ∷ codes "REFERENCES" ∷ codes "CONSTRAINT" ∷ codes "FOREIGN" ∷ []

abbrev pub name_items : List ℕ → List Item
name_items n = name reserved n ∷ []

-- "(" name { "," name } ")"
abbrev pub names_items : List (List ℕ) → List Item
names_items ns = sign LeftParen ∷ (with_commas (map name_items ns) ++ sign RightParen ∷ [])

abbrev pub type_word : TypeWord → List ℕ
type_word Int = codes "INT"
type_word Integer = codes "INTEGER"
type_word BigInt = codes "BIGINT"
type_word SmallInt = codes "SMALLINT"
type_word Text = codes "TEXT"
type_word VarChar = codes "VARCHAR"
type_word Char = codes "CHAR"

-- [ "(" Number ")" ]
abbrev pub size_items : Option ℤ → List Item
size_items None = []
size_items (Some n) = sign LeftParen ∷ number n ∷ sign RightParen ∷ []

abbrev pub type_items : TypeText → List Item
type_items t = keyword (type_word t.word) ∷ size_items t.size

-- NOT NULL | NULL | PRIMARY KEY | UNIQUE | REFERENCES name names
abbrev pub rule_items : ColumnRule → List Item
rule_items NotNull = keyword (codes "NOT") ∷ keyword (codes "NULL") ∷ []
rule_items Null = keyword (codes "NULL") ∷ []
rule_items PrimaryKey = keyword (codes "PRIMARY") ∷ keyword (codes "KEY") ∷ []
rule_items Unique = keyword (codes "UNIQUE") ∷ []
rule_items (References table targets) = keyword (codes "REFERENCES") ∷ name reserved table ∷ names_items targets

-- name type { rule }
abbrev pub column_items : ColumnText → List Item
column_items c = name reserved c.name ∷ (type_items c.type_text ++ flat_map rule_items c.rules)

-- PRIMARY KEY names | UNIQUE names | FOREIGN KEY names REFERENCES name names
abbrev pub table_rule_items : TableRule → List Item
table_rule_items (table_rules.PrimaryKey columns) = keyword (codes "PRIMARY") ∷ keyword (codes "KEY") ∷ names_items columns
table_rule_items (table_rules.Unique columns) = keyword (codes "UNIQUE") ∷ names_items columns
table_rule_items (table_rules.ForeignKey columns table targets) =
    keyword (codes "FOREIGN") ∷ keyword (codes "KEY") ∷ (names_items columns ++ keyword (codes "REFERENCES") ∷ name reserved table ∷ names_items targets)

-- [ CONSTRAINT name ]
abbrev pub label_items : Option (List ℕ) → List Item
label_items None = []
label_items (Some n) = keyword (codes "CONSTRAINT") ∷ name reserved n ∷ []

abbrev pub constraint_items : Constraint → List Item
constraint_items c = label_items c.label ++ table_rule_items c.rule

abbrev pub item_items : TableItem → List Item
item_items (Column c) = column_items c
item_items (ConstraintItem c) = constraint_items c

-- CREATE TABLE name "(" item { "," item } ")" ";"
abbrev pub table_items : TableText → List Item
table_items t = keyword (codes "CREATE") ∷ keyword (codes "TABLE") ∷ name reserved t.name ∷ sign LeftParen
    ∷ (with_commas (map item_items t.items) ++ sign RightParen ∷ sign Semicolon ∷ [])

-- ---- no list in brackets is empty

abbrev pub IsColumnRule : ColumnRule → Type 0
IsColumnRule NotNull = Unit {0}
IsColumnRule Null = Unit {0}
IsColumnRule PrimaryKey = Unit {0}
IsColumnRule Unique = Unit {0}
IsColumnRule (References table targets) = targets ≢ []

abbrev pub IsTableRule : TableRule → Type 0
IsTableRule (table_rules.PrimaryKey columns) = columns ≢ []
IsTableRule (table_rules.Unique columns) = columns ≢ []
IsTableRule (table_rules.ForeignKey columns table targets) = (columns ≢ []) × (targets ≢ [])

abbrev pub IsItem : TableItem → Type 0
IsItem (Column c) = All IsColumnRule c.rules
IsItem (ConstraintItem c) = IsTableRule c.rule

pub record IsTable (t : TableText) : Type 0 where
  pub some : t.items ≢ []
  pub each : All IsItem t.items

-- ---- inclusion rules

-- an inclusion rule as it is written: the words of its two queries
pub record InclusionText : Type 0 where
  pub left : List Lexeme
  pub right : List Lexeme

-- the words begin with these items, and the rest stands behind them
pub record Begins (items : List Item) (words rest : List Lexeme) : Type 0 where
  pub front : List Lexeme
  pub spelled : AreSpelled items front
  pub are : words ≡ front ++ rest

-- RULE "("
abbrev pub rule_opens : List Item
rule_opens = keyword (codes "RULE") ∷ sign LeftParen ∷ []

-- ")" WITHIN "("
abbrev pub within_opens : List Item
within_opens = sign RightParen ∷ keyword (codes "WITHIN") ∷ sign LeftParen ∷ []

-- ")" ";"
abbrev pub rule_ends : List Item
rule_ends = sign RightParen ∷ sign Semicolon ∷ []

-- RULE "(" left ")" WITHIN "(" right ")" ";" and then the rest; the words of each query go to the bracket that matches the one before them
pub record IsInclusion (text : InclusionText) (words rest : List Lexeme) : Type 0 where
  pub middle : List Lexeme
  pub back : List Lexeme
  pub opens : Begins rule_opens words (text.left ++ middle)
  pub left : AreBalanced text.left
  pub within : Begins within_opens middle (text.right ++ back)
  pub right : AreBalanced text.right
  pub ends : Begins rule_ends back rest

-- ---- statements

-- a statement as it is written
pub data StatementText : Type 0 where
  table : TableText → StatementText
  inclusion : InclusionText → StatementText

-- the statement stands at the front of the words, and the rest behind it
abbrev pub IsStatement : StatementText → List Lexeme → List Lexeme → Type 0
IsStatement (table t) words rest = IsTable t × Begins (table_items t) words rest
IsStatement (inclusion i) words rest = IsInclusion i words rest

-- the words are these statements, one after the other
abbrev pub AreStatements : List StatementText → List Lexeme → Type 0
AreStatements [] words = words ≡ []
AreStatements (s ∷ ss) words = (rest : List Lexeme) × IsStatement s words rest × AreStatements ss rest

-- the tables among statements, in order
abbrev pub tables_in : List StatementText → List TableText
tables_in [] = []
tables_in (table t ∷ ss) = t ∷ tables_in ss
tables_in (inclusion i ∷ ss) = tables_in ss

-- the inclusion rules among statements, in order
abbrev pub inclusions_in : List StatementText → List InclusionText
inclusions_in [] = []
inclusions_in (table t ∷ ss) = inclusions_in ss
inclusions_in (inclusion i ∷ ss) = i ∷ inclusions_in ss

-- ---- what the program's values stand for

abbrev pub seen : Inclusion → InclusionText
seen i = record { left = i.left.now; right = i.right.now }

-- tables and inclusion rules, as they are written
pub record WrittenSchema : Type 0 where
  pub tables : List TableText
  pub inclusions : List InclusionText

abbrev pub seen_text : SchemaText → WrittenSchema
seen_text text = record { tables = text.tables; inclusions = map seen text.inclusions }

abbrev pub text_in : List StatementText → WrittenSchema
text_in ss = record { tables = tables_in ss; inclusions = inclusions_in ss }

abbrev pub with_table : WrittenSchema → TableText → WrittenSchema
with_table w t = record { tables = w.tables ++ t ∷ []; inclusions = w.inclusions }

abbrev pub with_inclusion : WrittenSchema → InclusionText → WrittenSchema
with_inclusion w i = record { tables = w.tables; inclusions = w.inclusions ++ i ∷ [] }

abbrev pub with_statement : WrittenSchema → StatementText → WrittenSchema
with_statement w (table t) = with_table w t
with_statement w (inclusion i) = with_inclusion w i
