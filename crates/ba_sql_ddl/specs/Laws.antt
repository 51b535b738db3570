-- Which schema a file is, in SQL's terms.
use Rattle.std.specs.Prelude.{◌≡◌, ◌↔◌, ℕ, ◌<◌, ◌≤◌, IsTrue, List, [], ◌∷◌, ◌++◌, length, All, Contains, ◌⊎◌, Ok, Err, Some, slice_get}
use Rattle.std.specs.List.{AllZip, flat_map}
use Rattle.ba_lex.specs.Tokens.{file_tokens_of, lexemes_of}
use Rattle.ba_lex.specs.declared.token.LexFault.{LexFault}
use Rattle.ba_lex.specs.declared.token.Lexeme.{Lexeme}
use Rattle.ba_lex.specs.declared.token.Token.{Token}
use Rattle.ba_model.specs.RuleFaults.{IsSchema, RuleFits}
use Rattle.ba_model.specs.SchemaFaults.{AreTables, IsFirstFault}
use Rattle.ba_model.specs.declared.check_schema.SchemaFault.{SchemaFault}
use Rattle.ba_model.specs.Limits.{most_rules, most_text_bytes}
use Rattle.ba_model.specs.declared.limits.Counted.{Counted}
use Rattle.ba_model.specs.declared.limits.Counted.TheVariants.{Rules}
use Rattle.ba_model.specs.declared.schema.Column.{Column}
use Rattle.ba_model.specs.declared.schema.Link.{Link}
use Rattle.ba_model.specs.declared.schema.Rule.{Rule}
use Rattle.ba_model.specs.declared.schema.Schema.{Schema}
use Rattle.ba_model.specs.declared.schema.Table.{Table}
use Rattle.ba_sql_ddl.specs.Inclusions.{IsRuleOf, Refuses}
use Rattle.ba_sql_ddl.specs.Meaning.{LinkText, columns_in, draft_of, keys_in, kind_of, links_in, names_in, primary_names}
use Rattle.ba_sql_ddl.specs.Reading.{schema_of}
use Rattle.ba_sql_ddl.specs.Scan.{AreSupported, HasFirst}
use Rattle.ba_sql_ddl.specs.Written.{AreStatements, InclusionText, StatementText, inclusions_in, tables_in}
use Rattle.ba_sql_ddl.specs.declared.fault.DdlFault.TheVariants.{Lex, Unsupported, Syntax, Schema as SchemaFaulty, TooMany, Rule as RuleFault}
use Rattle.ba_sql_ddl.specs.declared.written.ColumnRule.TheVariants.{NotNull}
use Rattle.ba_sql_ddl.specs.declared.written.ColumnText.{ColumnText}
use Rattle.ba_sql_ddl.specs.declared.written.TableText.{TableText}
use Rattle.ba_sql_query.specs.declared.fault.ReadQueryFault.{ReadQueryFault}

-- ---- words

-- the file has at most so many bytes, and its tokens say these words
pub record AreWords (bytes : List ℕ) (words : List Lexeme) : Type 0 where
  pub tokens : List Token
  pub read : file_tokens_of most_text_bytes bytes ≡ Ok tokens
  pub say : words ≡ lexemes_of tokens

-- the file's words are these statements, and none outside of the queries of rules is unsupported
pub record IsWrittenSchema (bytes : List ℕ) (statements : List StatementText) : Type 0 where
  pub words : List Lexeme
  pub are : AreWords bytes words
  pub supported : AreSupported words
  pub written : AreStatements statements words

-- ---- names

-- the name at this number
abbrev pub IsNumberOf : List (List ℕ) → List ℕ → ℕ → Type 0
IsNumberOf names name number = slice_get names number ≡ Some name

abbrev pub AreNumbersOf : List (List ℕ) → List (List ℕ) → List ℕ → Type 0
AreNumbersOf names = AllZip (IsNumberOf names)

-- ---- columns

-- NOT NULL, or in a PRIMARY KEY of its table
abbrev pub IsNotNull : TableText → ColumnText → Type 0
IsNotNull t c = Contains c.rules NotNull ⊎ Contains (primary_names t.items) c.name

-- of that name and kind; it may hold NULL exactly where it is neither NOT NULL nor in a PRIMARY KEY of its table
pub record IsColumn (t : TableText) (text : ColumnText) (column : Column) : Type 0 where
  pub name : column.name ≡ text.name
  pub kind : column.kind ≡ kind_of text.type_text.word
  pub nullable : IsTrue column.nullable ↔ (¬ IsNotNull t text)

-- ---- links

-- the target is the table of that name, which may be any of the schema; its columns are those of the target
pub record IsLink (texts : List TableText) (t : TableText) (text : LinkText) (link : Link) : Type 0 where
  pub columns : AreNumbersOf (names_in t.items) text.columns link.columns
  pub target : TableText
  pub is_there : slice_get texts link.target ≡ Some target
  pub named : target.name ≡ text.table
  pub targets : AreNumbersOf (names_in target.items) text.targets link.target_columns

-- ---- tables

pub record IsTableOf (texts : List TableText) (t : TableText) (table : Table) : Type 0 where
  pub name : table.name ≡ t.name
  pub columns : AllZip (IsColumn t) (columns_in t.items) table.columns
  pub keys : AllZip (AreNumbersOf (names_in t.items)) (flat_map keys_in t.items) table.keys
  pub links : AllZip (IsLink texts t) (flat_map links_in t.items) table.links

-- ---- schemas

-- the schema of tables alone, over which rules are read
abbrev pub of_tables : List Table → Schema
of_tables tables = record { tables = tables; rules = [] }

-- the file is a written schema; the schema's tables are those written, its rules are those that their words read as over the tables, in the order of the text;
-- it is well formed and within the limits
pub record ReadsSchema (bytes : List ℕ) (schema : Schema) : Type 0 where
  pub statements : List StatementText
  pub written : IsWrittenSchema bytes statements
  pub tables : AllZip (IsTableOf (tables_in statements)) (tables_in statements) schema.tables
  pub rules : AllZip (IsRuleOf (of_tables schema.tables)) (inclusions_in statements) schema.rules
  pub well_formed : IsSchema schema

-- ---- faults

pub record HasUnsupported (bytes : List ℕ) (word : List ℕ) : Type 0 where
  pub words : List Lexeme
  pub are : AreWords bytes words
  pub first : HasFirst word words

-- the words are supported, and no statements are written so
pub record HasNoForm (bytes : List ℕ) : Type 0 where
  pub words : List Lexeme
  pub are : AreWords bytes words
  pub supported : AreSupported words
  pub none : (statements : List StatementText) → ¬ AreStatements statements words

-- the tables meant have the fault as their first; a name that isn't there has a number that isn't
pub record HasSchemaFault (bytes : List ℕ) (fault : SchemaFault) : Type 0 where
  pub statements : List StatementText
  pub written : IsWrittenSchema bytes statements
  pub first : IsFirstFault fault (draft_of (tables_in statements))

-- the tables have no fault, and there are more than most_rules rules
pub record HasTooMany (bytes : List ℕ) (what : Counted) (limit : ℕ) : Type 0 where
  pub statements : List StatementText
  pub written : IsWrittenSchema bytes statements
  pub tables : AreTables (draft_of (tables_in statements))
  pub many : most_rules < length (inclusions_in statements)
  pub of_rules : what ≡ Rules
  pub most : limit ≡ most_rules

-- the tables have no fault, and there aren't too many rules; those before the one of this number are rules of the tables, and it has the fault
pub record HasRuleFault (bytes : List ℕ) (number : ℕ) (fault : ReadQueryFault) : Type 0 where
  pub statements : List StatementText
  pub written : IsWrittenSchema bytes statements
  pub tables : AreTables (draft_of (tables_in statements))
  pub few : length (inclusions_in statements) ≤ most_rules
  pub before : List InclusionText
  pub text : InclusionText
  pub after : List InclusionText
  pub are : inclusions_in statements ≡ before ++ text ∷ after
  pub numbered : number ≡ length before
  pub rules : List Rule
  pub read : AllZip (IsRuleOf (of_tables (draft_of (tables_in statements)))) before rules
  pub fit : All (RuleFits (of_tables (draft_of (tables_in statements)))) rules
  pub refused : Refuses (of_tables (draft_of (tables_in statements))) text fault

-- ---- the laws

abbrev pub SchemaReading : Type 0
SchemaReading = (bytes : List ℕ) (schema : Schema) → (schema_of bytes ≡ Ok schema) ↔ ReadsSchema bytes schema

abbrev pub SchemaIsUnique : Type 0
SchemaIsUnique = (bytes : List ℕ) (s t : Schema) → ReadsSchema bytes s → ReadsSchema bytes t → s ≡ t

abbrev pub LexFaultReading : Type 0
LexFaultReading = (bytes : List ℕ) (fault : LexFault) → (schema_of bytes ≡ Err (Lex fault)) ↔ (file_tokens_of most_text_bytes bytes ≡ Err fault)

abbrev pub UnsupportedReading : Type 0
UnsupportedReading = (bytes word : List ℕ) → (schema_of bytes ≡ Err (Unsupported word)) ↔ HasUnsupported bytes word

abbrev pub SyntaxReading : Type 0
SyntaxReading = (bytes : List ℕ) → (schema_of bytes ≡ Err Syntax) ↔ HasNoForm bytes

abbrev pub SchemaFaultReading : Type 0
SchemaFaultReading = (bytes : List ℕ) (fault : SchemaFault) → (schema_of bytes ≡ Err (SchemaFaulty fault)) ↔ HasSchemaFault bytes fault

abbrev pub TooManyReading : Type 0
TooManyReading = (bytes : List ℕ) (what : Counted) (limit : ℕ) → (schema_of bytes ≡ Err (TooMany what limit)) ↔ HasTooMany bytes what limit

abbrev pub RuleFaultReading : Type 0
RuleFaultReading = (bytes : List ℕ) (number : ℕ) (fault : ReadQueryFault) → (schema_of bytes ≡ Err (RuleFault number fault)) ↔ HasRuleFault bytes number fault
