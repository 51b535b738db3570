-- The schema that a file is.
use Rattle.std.specs.Prelude.{ℕ, List, Option, Some, None, Result, Err}
use Rattle.ba_lex.specs.Tokens.{file_tokens_of, lexemes_of}
use Rattle.ba_lex.specs.declared.token.Lexeme.{Lexeme}
use Rattle.ba_model.specs.Readings.{◌>>=◌, widened}
use Rattle.ba_model.specs.Limits.{most_text_bytes}
use Rattle.ba_model.specs.declared.schema.Schema.{Schema}
use Rattle.ba_sql_ddl.specs.Check.{checked}
use Rattle.ba_sql_ddl.specs.Meaning.{draft_of}
use Rattle.ba_sql_ddl.specs.Inclusions.{with_rules}
use Rattle.ba_sql_ddl.specs.Reader.{text_at}
use Rattle.ba_sql_ddl.specs.Scan.{scan}
use Rattle.ba_sql_ddl.specs.Written.{WrittenSchema}
use Rattle.ba_sql_ddl.specs.declared.fault.DdlFault.{DdlFault}
use Rattle.ba_sql_ddl.specs.declared.fault.DdlFault.TheVariants.{Lex, Unsupported, Syntax}

abbrev pub unless : Option (List ℕ) → Result WrittenSchema DdlFault → Result WrittenSchema DdlFault
unless (Some word) text = Err (Unsupported word)
unless None text = text

-- the words as written tables and inclusion rules, unless one of them isn't supported
unfoldable pub text_of : List Lexeme → Result WrittenSchema DdlFault
text_of words = unless (scan words) (widened (λ e. Syntax) (text_at words))

-- a file of at most so many bytes: first the tables, then the rules over them
unfoldable pub schema_of : List ℕ → Result Schema DdlFault
schema_of bytes = do
  tokens ← widened Lex (file_tokens_of most_text_bytes bytes)
  text ← text_of (lexemes_of tokens)
  schema ← checked (draft_of text.tables)
  with_rules schema text.inclusions
