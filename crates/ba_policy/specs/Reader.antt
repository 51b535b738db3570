-- Statements read from the left.
use Rattle.std.specs.Prelude.{List, [], ◌∷◌, ◌++◌, drop, length, Result, Ok, Err, codes, if◌then◌else◌}
use Rattle.ba_grammar.specs.Front.{Read, all, any_at, begins, is_keyword, is_sign, listed, past, syntax}
use Rattle.ba_grammar.specs.declared.error.Syntax.{Syntax}
use Rattle.ba_lex.specs.declared.token.Lexeme.{Lexeme}
use Rattle.ba_lex.specs.declared.token.Sign.TheVariants.{Comma, LeftParen, RightParen, Semicolon}
use Rattle.ba_model.specs.Readings.{◌>>=◌}
use Rattle.ba_model.specs.declared.policy.Parameter.{Parameter}
use Rattle.ba_model.specs.declared.schema.Kind.{Kind}
use Rattle.ba_model.specs.declared.schema.Kind.TheVariants.{Int as IntKind, Text as TextKind}
use Rattle.ba_policy.specs.Statements.{StatementText, parameter}
use Rattle.ba_policy.specs.Statements.StatementText.{param, view, key}

abbrev pub kind_of : Lexeme → List Lexeme → Read Kind
kind_of x rest =
    if is_keyword (codes "INT") x then Ok (IntKind, rest)
    else (if is_keyword (codes "TEXT") x then Ok (TextKind, rest) else Err syntax)

unfoldable pub kind_at : List Lexeme → Read Kind
kind_at [] = Err syntax
kind_at (x ∷ xs) = kind_of x xs

-- the words up to the next `;`, and those behind it
unfoldable pub up_to_end : List Lexeme → Read (List Lexeme)
up_to_end [] = Err syntax
up_to_end (x ∷ xs) = if is_sign Semicolon x then Ok ([], xs) else (up_to_end xs >>= λ r. Ok (x ∷ r.0, r.1))

unfoldable pub param_at : List Lexeme → Read StatementText
param_at words = do
  rest ← past (is_keyword (codes "PARAM")) words
  name ← any_at rest
  kind ← kind_at name.1
  rest ← past (is_sign Semicolon) kind.1
  Ok (param name.0 kind.0, rest)

unfoldable pub view_at : List Lexeme → Read StatementText
view_at words = do
  rest ← past (is_keyword (codes "CREATE")) words
  rest ← past (is_keyword (codes "VIEW")) rest
  name ← any_at rest
  rest ← past (is_keyword (codes "AS")) name.1
  query ← up_to_end rest
  Ok (view name.0 query.0, query.1)

unfoldable pub argument_at : List Lexeme → Read Parameter
argument_at words = do
  name ← any_at words
  kind ← kind_at name.1
  Ok (parameter name.0 kind.0, kind.1)

-- one or more, and the bracket behind them
unfoldable pub some_arguments_at : List Lexeme → Read (List Parameter)
some_arguments_at words = do
  arguments ← listed (is_sign Comma) argument_at words
  rest ← past (is_sign RightParen) arguments.1
  Ok (arguments.0, rest)

unfoldable pub arguments_at : List Lexeme → Read (List Parameter)
arguments_at words = if begins (is_sign RightParen) words then Ok ([], drop 1 words) else some_arguments_at words

-- the words between the words ALSO, those of the first behind a front
unfoldable pub parted_from : List Lexeme → List Lexeme → List (List Lexeme)
parted_from front [] = front ∷ []
parted_from front (x ∷ xs) = if is_keyword (codes "ALSO") x then front ∷ parted_from [] xs else parted_from (front ++ x ∷ []) xs

abbrev pub parted : List Lexeme → List (List Lexeme)
parted = parted_from []

unfoldable pub key_at : List Lexeme → Read StatementText
key_at words = do
  rest ← past (is_keyword (codes "CREATE")) words
  rest ← past (is_keyword (codes "KEY")) rest
  name ← any_at rest
  rest ← past (is_sign LeftParen) name.1
  arguments ← arguments_at rest
  rest ← past (is_keyword (codes "AS")) arguments.1
  queries ← up_to_end rest
  Ok (key name.0 arguments.0 (parted queries.0), queries.1)

unfoldable pub created_at : List Lexeme → Read StatementText
created_at words = if begins (is_keyword (codes "KEY")) (drop 1 words) then key_at words else view_at words

unfoldable pub statement_at : List Lexeme → Read StatementText
statement_at words = if begins (is_keyword (codes "PARAM")) words then param_at words else created_at words

abbrev pub statements_at : List Lexeme → Result (List StatementText) Syntax
statements_at words = all statement_at (length words) words
