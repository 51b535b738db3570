-- The policy that a file is.
use Rattle.std.specs.Prelude.{ℕ, List, Result, Ok}
use Rattle.ba_grammar.specs.declared.error.Syntax.{Syntax as OfGrammar}
use Rattle.ba_lex.specs.Tokens.{file_tokens_of, lexemes_of}
use Rattle.ba_lex.specs.declared.token.Lexeme.{Lexeme}
use Rattle.ba_model.specs.Readings.{◌>>=◌, widened}
use Rattle.ba_model.specs.Limits.{most_text_bytes}
use Rattle.ba_model.specs.declared.policy.Policy.{Policy}
use Rattle.ba_model.specs.declared.schema.Schema.{Schema}
use Rattle.ba_policy.specs.Meaning.{all_added, finished, nothing, params_in}
use Rattle.ba_policy.specs.Reader.{statements_at}
use Rattle.ba_policy.specs.Statements.{StatementText}
use Rattle.ba_policy.specs.declared.error.PolicyFault.{PolicyFault}
use Rattle.ba_policy.specs.declared.error.PolicyFault.TheVariants.{Lex, Syntax}

-- the words of a file of at most most_text_bytes bytes
abbrev pub words_of : List ℕ → Result (List Lexeme) PolicyFault
words_of bytes = widened Lex (file_tokens_of most_text_bytes bytes) >>= λ tokens. Ok (lexemes_of tokens)

abbrev pub of_grammar : OfGrammar → PolicyFault
of_grammar e = Syntax

-- what statements mean, all together
unfoldable pub policy_of_statements : Schema → List StatementText → Result Policy PolicyFault
policy_of_statements schema statements = all_added schema (params_in statements) nothing statements >>= finished schema

unfoldable pub policy_of : Schema → List ℕ → Result Policy PolicyFault
policy_of schema bytes = do
  words ← words_of bytes
  statements ← widened of_grammar (statements_at words)
  policy_of_statements schema statements
