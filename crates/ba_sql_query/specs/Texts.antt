-- The query that words mean, and that a text means, or the first fault.
use Rattle.std.specs.Prelude.{ℕ, List, Result}
use Rattle.ba_lex.specs.Tokens.{lexemes_of, tokens_of}
use Rattle.ba_lex.specs.declared.token.Lexeme.{Lexeme}
use Rattle.ba_model.specs.Readings.{◌>>=◌, widened}
use Rattle.ba_model.specs.Limits.{most_query_bytes}
use Rattle.ba_model.specs.declared.policy.Parameter.{Parameter}
use Rattle.ba_model.specs.declared.query.Query.{Query}
use Rattle.ba_model.specs.declared.schema.Schema.{Schema}
use Rattle.ba_sql_syntax.specs.Written.{written_of}
use Rattle.ba_sql_query.specs.Errors.{lex_fault, syntax_fault}
use Rattle.ba_sql_query.specs.Meaning.{query_of_written}
use Rattle.ba_sql_query.specs.declared.fault.ReadQueryFault.{ReadQueryFault}

unfoldable pub query_of_words : Schema → List Parameter → List Lexeme → Result Query ReadQueryFault
query_of_words schema params words = widened syntax_fault (written_of words) >>= query_of_written schema params

-- a text of at most most_query_bytes bytes
unfoldable pub query_of : Schema → List Parameter → List ℕ → Result Query ReadQueryFault
query_of schema params text = widened lex_fault (tokens_of most_query_bytes text) >>= λ tokens. query_of_words schema params (lexemes_of tokens)
