-- When a query's text has its words.
use Rattle.std.specs.Prelude.{◌≡◌, ℕ, ◌<◌, ◌≤◌, ◌^◌, IsTrue, All, List, [], length, Ok}
use Rattle.ba_lex.specs.Spelling.{are_name_bytes, are_word_bytes, fits}
use Rattle.ba_lex.specs.Tokens.{lexemes_of, tokens_of}
use Rattle.ba_lex.specs.declared.token.Lexeme.{Lexeme}
use Rattle.ba_lex.specs.declared.token.Token.{Token}
use Rattle.ba_model.specs.Fit.{IsQuery, kinds_of}
use Rattle.ba_model.specs.declared.policy.Parameter.{Parameter}
use Rattle.ba_model.specs.declared.query.Atom.{Atom}
use Rattle.ba_model.specs.declared.query.Operand.{Operand}
use Rattle.ba_model.specs.declared.query.Operand.TheVariants.{Col, Val, Param, Var}
use Rattle.ba_model.specs.declared.query.Part.{Part}
use Rattle.ba_model.specs.declared.query.Query.{Query}
use Rattle.ba_model.specs.declared.schema.Schema.{Schema}
use Rattle.ba_model.specs.declared.schema.Table.{Table}
use Rattle.ba_model.specs.declared.value.Value.TheVariants.{Null, Int, Text}
use Rattle.ba_sql_print.specs.Printed.{query_text}
use Rattle.ba_sql_print.specs.Words.{query_words}

-- its name and those of its columns can stand in quotes
pub record CanBeSpelled (table : Table) : Type 0 where
  pub name : IsTrue (are_name_bytes table.name)
  pub columns : All (λ column. IsTrue (are_name_bytes column.name)) table.columns

-- a whole number has 64 bits, the number of a parameter 32
abbrev pub IsInRange : Operand → Type 0
IsInRange (Col place column) = Unit {0}
IsInRange (Val Null) = Unit {0}
IsInRange (Val (Int n)) = IsTrue (fits n)
IsInRange (Val (Text text)) = Unit {0}
IsInRange (Param n) = n < 2 ^ 32
IsInRange (Var n) = Unit {0}

pub record AtomInRange (atom : Atom) : Type 0 where
  pub left : IsInRange atom.left
  pub right : IsInRange atom.right

pub record PartInRange (part : Part) : Type 0 where
  pub conds : All AtomInRange part.conds
  pub head : All IsInRange part.head

-- a query whose names and numbers can be written
pub record HasSpelling (schema : Schema) (params : List Parameter) (query : Query) : Type 0 where
  pub checked : IsQuery schema (kinds_of params) [] query
  pub table_names : All CanBeSpelled schema.tables
  pub param_names : All (λ parameter. IsTrue (are_word_bytes parameter.name)) params
  pub parts : All PartInRange query.parts

-- the text's tokens are these words
pub record HasWords (limit : ℕ) (text : List ℕ) (words : List Lexeme) : Type 0 where
  pub tokens : List Token
  pub read : tokens_of limit text ≡ Ok tokens
  pub say : lexemes_of tokens ≡ words

abbrev pub PrintedTextHasWords : Type 0
PrintedTextHasWords =
    (schema : Schema) (params : List Parameter) (query : Query) (limit : ℕ) → HasSpelling schema params query → length (query_text schema params query) ≤ limit
    → HasWords limit (query_text schema params query) (query_words schema params query)
