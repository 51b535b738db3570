-- The terminals of the grammar, and which of them each word is.
use Rattle.std.specs.Prelude.{ℕ, ℤ, pos, Bool, false, ◌==◌, List, [], ◌∷◌, map, codes, Option, Some, None, if◌then◌else◌}
use Rattle.ba_grammar.specs.Items.{is_among, sign_number}
use Rattle.ba_lex.specs.Word.{is_word}
use Rattle.ba_lex.specs.declared.token.Lexeme.{Lexeme}
use Rattle.ba_lex.specs.declared.token.Lexeme.TheVariants as lexemes
use Rattle.ba_lex.specs.declared.token.Sign.{Sign}
use Rattle.ba_model.specs.declared.value.Value.TheVariants.{Int, Text as TextValue}
use Rattle.ba_sql_syntax.specs.declared.word.Key.{Key}
use Rattle.ba_sql_syntax.specs.declared.word.Key.TheVariants.{Select, Distinct, From, Where, Join, Inner, Cross, On, As, And, Or, Union, In, Is, Not, Null}
pub use Rattle.ba_sql_syntax.specs.declared.word.Terminal.{Terminal}
pub use Rattle.ba_sql_syntax.specs.declared.word.Terminal.TheVariants.{Key as key, Name as name, Constant as constant, Sign as sign, Unsupported as unsupported}
use Rattle.ba_sql_syntax.specs.declared.written.Constant.TheVariants.{Value, Param}

abbrev pub key_text : Key → List ℕ
key_text Select = codes "SELECT"
key_text Distinct = codes "DISTINCT"
key_text From = codes "FROM"
key_text Where = codes "WHERE"
key_text Join = codes "JOIN"
key_text Inner = codes "INNER"
key_text Cross = codes "CROSS"
key_text On = codes "ON"
key_text As = codes "AS"
key_text And = codes "AND"
key_text Or = codes "OR"
key_text Union = codes "UNION"
key_text In = codes "IN"
key_text Is = codes "IS"
key_text Not = codes "NOT"
key_text Null = codes "NULL"

-- all keywords
abbrev pub keys : List Key
keys = Select ∷ Distinct ∷ From ∷ Where ∷ Join ∷ Inner ∷ Cross ∷ On ∷ As ∷ And ∷ Or ∷ Union ∷ In ∷ Is ∷ Not ∷ Null ∷ []

abbrev pub truth : ℤ → Terminal
truth n = constant (Value (Int n))

-- the words that mean something, and what: TRUE is 1, FALSE is 0
abbrev pub meanings : List (List ℕ × Terminal)
meanings =
    (codes "TRUE", truth (pos 1)) ∷ (codes "FALSE", truth (pos 0))
    ∷ (codes "SELECT", key Select) ∷ (codes "DISTINCT", key Distinct) ∷ (codes "FROM", key From) ∷ (codes "WHERE", key Where)
    ∷ (codes "JOIN", key Join) ∷ (codes "INNER", key Inner) ∷ (codes "CROSS", key Cross) ∷ (codes "ON", key On) ∷ (codes "AS", key As)
    ∷ (codes "AND", key And) ∷ (codes "OR", key Or) ∷ (codes "UNION", key Union) ∷ (codes "IN", key In)
    ∷ (codes "IS", key Is) ∷ (codes "NOT", key Not) ∷ (codes "NULL", key Null) ∷ []

-- the reserved words that aren't supported; IS, NOT and NULL are in IS NULL and IS NOT NULL alone
abbrev pub unsupported_words : List (List ℕ)
unsupported_words =
    codes "ALL" ∷ codes "NOT" ∷ codes "NULL" ∷ codes "IS" ∷ codes "LIKE" ∷ codes "BETWEEN" ∷ codes "EXISTS"
    ∷ codes "GROUP" ∷ codes "HAVING" ∷ codes "ORDER" ∷ codes "LIMIT" ∷ codes "OFFSET" ∷ codes "LEFT" ∷ codes "RIGHT"
    ∷ codes "FULL" ∷ codes "OUTER" ∷ codes "NATURAL" ∷ codes "USING" ∷ codes "CASE" ∷ codes "WITH" ∷ codes "INSERT"
    ∷ codes "UPDATE" ∷ codes "DELETE" ∷ codes "INTERSECT" ∷ codes "EXCEPT" ∷ []

unfoldable pub is_unsupported : List ℕ → Bool
is_unsupported = is_among unsupported_words

abbrev pub meaning_words : List (List ℕ)
meaning_words = map (λ row. row.0) meanings

unfoldable pub has_meaning : List ℕ → Bool
has_meaning = is_among meaning_words

-- the first row's meaning whose word this is, in any case; a word without one is a name if it is supported
abbrev pub meaning : List (List ℕ × Terminal) → List ℕ → Terminal
meaning [] word = if is_unsupported word then unsupported else name word
meaning (row ∷ rows) word = if is_word word row.0 then row.1 else meaning rows word

unfoldable pub word_terminal : List ℕ → Terminal
word_terminal = meaning meanings

abbrev pub terminal : Lexeme → Terminal
terminal (lexemes.Word word) = word_terminal word
terminal (lexemes.Quoted n) = name n
terminal (lexemes.Number n) = constant (Value (Int n))
terminal (lexemes.Text text) = constant (Value (TextValue text))
terminal (lexemes.Param p) = constant (Param p)
terminal (lexemes.Sign s) = sign s

abbrev pub terminals : List Lexeme → List Terminal
terminals = map terminal

-- the first of these keywords whose word this is, in any case
abbrev pub first_key : List Key → List ℕ → Option Key
first_key [] word = None
first_key (k ∷ ks) word = if is_word word (key_text k) then Some k else first_key ks word

-- ---- tests of one terminal

-- a number for each keyword
abbrev pub key_number : Key → ℕ
key_number Select = 0
key_number Distinct = 1
key_number From = 2
key_number Where = 3
key_number Join = 4
key_number Inner = 5
key_number Cross = 6
key_number On = 7
key_number As = 8
key_number And = 9
key_number Or = 10
key_number Union = 11
key_number In = 12
key_number Is = 13
key_number Not = 14
key_number Null = 15

abbrev pub is_key : Key → Terminal → Bool
is_key k (key j) = key_number j == key_number k
is_key k (name n) = false
is_key k (constant c) = false
is_key k (sign s) = false
is_key k unsupported = false

abbrev pub is_sign : Sign → Terminal → Bool
is_sign s (sign t) = sign_number t == sign_number s
is_sign s (key k) = false
is_sign s (name n) = false
is_sign s (constant c) = false
is_sign s unsupported = false
