-- Which query a sent text is read as.
use Rattle.std.specs.Prelude.{◌≡◌, ℕ, Bool, false, true, ◌&&◌, List, [], ◌∷◌, codes, Option, Some, None, Ok, if◌then◌else◌}
use Rattle.std.specs.Option.{option_map_or}
use Rattle.std.specs.Str.{bytes_eq}
use Rattle.ba_grammar.specs.Front.{begins, is_keyword, is_sign}
use Rattle.ba_lex.specs.Tokens.{lexemes_of, tokens_of}
use Rattle.ba_lex.specs.declared.token.Lexeme.{Lexeme}
use Rattle.ba_lex.specs.declared.token.Lexeme.TheVariants.{Word, Quoted, Number, Text, Param, Sign}
use Rattle.ba_lex.specs.declared.token.Sign.TheVariants.{Dot}
use Rattle.ba_lex.specs.declared.token.Token.{Token}
use Rattle.ba_model.specs.declared.query.Query.{Query}
use Rattle.ba_model.specs.declared.schema.Schema.{Schema}
use Rattle.ba_sql_query.specs.Reads.{ReadsWords}
use Rattle.ba_target.specs.declared.target.Database.{Database}
use Rattle.ba_target.specs.declared.target.Database.TheVariants.{PostgreSql, Sqlite, MySql}
use Rattle.ba_target.specs.declared.target.Target.{Target}
use Rattle.ba_send.specs.Sent.{most_sent_bytes}
use Rattle.ba_send.specs.Texts.{unhex, unslashed}

-- ---- words that say how the text behind them is read

-- as it stands, each doubled backslash as one, or as hex digits
pub data Form : Type 0 where
  plain : Form
  slashes : Form
  digits : Form

abbrev pub is_text : Lexeme → Bool
is_text (Text text) = true
is_text (Word word) = false
is_text (Quoted name) = false
is_text (Number n) = false
is_text (Param name) = false
is_text (Sign it) = false

-- the word is followed by such a one, and then says this form
abbrev pub if_before : List ℕ → (Lexeme → Bool) → Form → Lexeme → List Lexeme → Option Form
if_before keyword test form x xs =
    if is_keyword keyword x && begins test xs then Some form else None

-- PostgreSQL: E before a text. MySQL: X before a text, and _utf8mb4 before that.
unfoldable pub form_said : Database → Lexeme → List Lexeme → Option Form
form_said PostgreSql x xs = if_before (codes "E") is_text slashes x xs
form_said Sqlite x xs = None
form_said MySql x xs =
    if is_keyword (codes "X") x then if_before (codes "X") is_text digits x xs
    else if_before (codes "_utf8mb4") (is_keyword (codes "X")) plain x xs

abbrev pub read_in : Form → Lexeme → Lexeme
read_in plain x = x
read_in slashes (Text text) = Text (unslashed false text)
read_in slashes x = x
read_in digits (Text text) = Text (unhex text)
read_in digits x = x

-- the words, the first of them read in a form: those that say a form are none of the grammar
unfoldable pub texts_read : Database → Form → List Lexeme → List Lexeme
texts_read database form [] = []
texts_read database form (x ∷ xs) =
    option_map_or (λ next. texts_read database next xs) (form_said database x xs)
    (read_in form x ∷ texts_read database plain xs)

-- ---- the namespace

-- a name in quotes that is this one
abbrev pub is_name : List ℕ → Lexeme → Bool
is_name called (Quoted name) = bytes_eq name called
is_name called (Word word) = false
is_name called (Number n) = false
is_name called (Text text) = false
is_name called (Param name) = false
is_name called (Sign it) = false

-- the words without the namespace before a dot, and without this dot, which comes next where behind
unfoldable pub without_namespace : List ℕ → Bool → List Lexeme → List Lexeme
without_namespace called behind [] = []
without_namespace called behind (x ∷ xs) =
    if behind && is_sign Dot x then without_namespace called false xs
    else (if is_name called x && begins (is_sign Dot) xs then without_namespace called true xs
    else x ∷ without_namespace called false xs)

abbrev pub names_read : Option (List ℕ) → List Lexeme → List Lexeme
names_read None words = words
names_read (Some called) words = without_namespace called false words

-- ---- queries

-- the words of the grammar that a database reads in a text's words
abbrev pub words_in : Target → List Lexeme → List Lexeme
words_in target words = names_read target.namespace (texts_read target.database plain words)

-- over the database's tokens, the grammar of questions reads the text as the query, and as no other
pub record ReadsSent (target : Target) (schema : Schema) (text : List ℕ) (query : Query) : Type 0
  where
    pub tokens : List Token
    pub are : tokens_of most_sent_bytes text ≡ Ok tokens
    pub reads : ReadsWords schema [] (words_in target (lexemes_of tokens)) query
