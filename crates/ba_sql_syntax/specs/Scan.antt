-- What isn't supported, before the grammar is asked: tokens in their places.
use Rattle.std.specs.Prelude.{◌≡◌, ℕ, ◌≤◌, Bool, true, false, not, ◌&&◌, ◌||◌, List, [], ◌∷◌, ◌++◌, length, map, codes, Option, Some, None, if◌then◌else◌}
use Rattle.std.specs.Char.{to_ascii_uppercase}
use Rattle.ba_grammar.specs.Front.{begins, is_keyword, is_sign}
use Rattle.ba_lex.specs.Spelling.{sign_bytes}
use Rattle.ba_lex.specs.Word.{is_word}
use Rattle.ba_lex.specs.declared.token.Lexeme.{Lexeme}
use Rattle.ba_lex.specs.declared.token.Lexeme.TheVariants.{Word, Quoted, Number, Text, Param, Sign as SignWord}
use Rattle.ba_lex.specs.declared.token.Sign.{Sign}
use Rattle.ba_lex.specs.declared.token.Sign.TheVariants.{LeftParen, RightParen, Comma, Dot, Semicolon, Star, Equal, NotEqual, BangEqual, Less, LessEqual, Greater, GreaterEqual, Plus, Minus, Slash, Percent}
use Rattle.ba_sql_syntax.specs.Terminals.{has_meaning, is_unsupported}
use Rattle.ba_sql_syntax.specs.declared.scan.Behind.{Behind}

-- ---- in the grammar's terms

abbrev pub upper : List ℕ → List ℕ
upper = map to_ascii_uppercase

abbrev pub is_arithmetic : Sign → Bool
is_arithmetic Plus = true
is_arithmetic Minus = true
is_arithmetic Slash = true
is_arithmetic Percent = true
is_arithmetic LeftParen = false
is_arithmetic RightParen = false
is_arithmetic Comma = false
is_arithmetic Dot = false
is_arithmetic Semicolon = false
is_arithmetic Star = false
is_arithmetic Equal = false
is_arithmetic NotEqual = false
is_arithmetic BangEqual = false
is_arithmetic Less = false
is_arithmetic LessEqual = false
is_arithmetic Greater = false
is_arithmetic GreaterEqual = false

-- IS NULL, or IS NOT NULL
pub data IsNullTest : List Lexeme → Type 0 where
  is_null : {i n : Lexeme} → is_keyword (codes "IS") i ≡ true → is_keyword (codes "NULL") n ≡ true → IsNullTest (i ∷ n ∷ [])
  is_not_null : {i o n : Lexeme} → is_keyword (codes "IS") i ≡ true → is_keyword (codes "NOT") o ≡ true → is_keyword (codes "NULL") n ≡ true
      → IsNullTest (i ∷ o ∷ n ∷ [])

-- a lexeme between others is one of an IS NULL or of an IS NOT NULL: with words directly before it and directly behind it
pub record IsInNullTest (front : List Lexeme) (lexeme : Lexeme) (rest : List Lexeme) : Type 0 where
  pub earlier : List Lexeme
  pub before : List Lexeme
  pub behind : List Lexeme
  pub later : List Lexeme
  pub front_is : front ≡ earlier ++ before
  pub rest_is : rest ≡ behind ++ later
  pub test : IsNullTest (before ++ lexeme ∷ behind)

abbrev pub begins_bracket : List Lexeme → Bool
begins_bracket = begins (is_sign LeftParen)

-- the last lexeme is `(`
abbrev pub ends_bracket : Bool → List Lexeme → Bool
ends_bracket behind [] = behind
ends_bracket behind (x ∷ xs) = ends_bracket (is_sign LeftParen x) xs

-- a lexeme between others is unsupported there, and so called: a reserved word that stands in no IS NULL and no IS NOT NULL, an
-- arithmetic sign, SELECT directly behind `(`, and a word that isn't reserved directly before `(`
pub data IsUnsupportedThere (front rest : List Lexeme) : Lexeme → List ℕ → Type 0 where
  reserved : {w : List ℕ} → is_unsupported w ≡ true → (IsInNullTest front (Word w) rest → ⊥) → IsUnsupportedThere front rest (Word w) (upper w)
  arithmetic : {s : Sign} → is_arithmetic s ≡ true → IsUnsupportedThere front rest (SignWord s) (sign_bytes s)
  subquery : {w : List ℕ} → ends_bracket false front ≡ true → is_word w (codes "SELECT") ≡ true → IsUnsupportedThere front rest (Word w) (upper w)
  call : {w : List ℕ} → begins_bracket rest ≡ true → has_meaning w ≡ false → is_unsupported w ≡ false → IsUnsupportedThere front rest (Word w) (upper w)

-- the words have an unsupported one behind these first ones
pub record HasUnsupported (words front : List Lexeme) (called : List ℕ) : Type 0 where
  pub lexeme : Lexeme
  pub rest : List Lexeme
  pub all : words ≡ front ++ lexeme ∷ rest
  pub there : IsUnsupportedThere front rest lexeme called

pub record IsSupported (words : List Lexeme) : Type 0 where
  pub none : (front : List Lexeme) (called : List ℕ) → HasUnsupported words front called → ⊥

-- the first one is called so
pub record IsFirstUnsupported (words : List Lexeme) (called : List ℕ) : Type 0 where
  pub front : List Lexeme
  pub here : HasUnsupported words front called
  pub first : (other : List Lexeme) (name : List ℕ) → HasUnsupported words other name → length front ≤ length other

-- ---- from left to right

-- at the start
abbrev pub nothing : Behind
nothing = record { bracket = false; is = false; is_not = false }

-- behind what the next one stands
abbrev pub after : Behind → Lexeme → Behind
after behind x = record { bracket = is_sign LeftParen x; is = is_keyword (codes "IS") x; is_not = behind.is && is_keyword (codes "NOT") x }

-- NULL or NOT NULL comes next
unfoldable pub begins_null : List Lexeme → Bool
begins_null [] = false
begins_null (x ∷ xs) = is_keyword (codes "NULL") x || (is_keyword (codes "NOT") x && begins (is_keyword (codes "NULL")) xs)

-- the word is one of an IS NULL or of an IS NOT NULL: its first, its NOT or its last
unfoldable pub in_null_test : Behind → List ℕ → List Lexeme → Bool
in_null_test behind w rest =
    (is_word w (codes "IS") && begins_null rest)
    || ((behind.is && (is_word w (codes "NOT") && begins (is_keyword (codes "NULL")) rest)) || ((behind.is || behind.is_not) && is_word w (codes "NULL")))

unfoldable pub is_refused : Behind → List ℕ → List Lexeme → Bool
is_refused behind w rest =
    if is_unsupported w then not (in_null_test behind w rest)
    else ((behind.bracket && is_word w (codes "SELECT")) || (begins_bracket rest && not (has_meaning w)))

abbrev pub word_unsupported : Behind → List ℕ → List Lexeme → Option (List ℕ)
word_unsupported behind w rest = if is_refused behind w rest then Some (upper w) else None

abbrev pub sign_unsupported : Sign → Option (List ℕ)
sign_unsupported s = if is_arithmetic s then Some (sign_bytes s) else None

abbrev pub unsupported_there : Behind → Lexeme → List Lexeme → Option (List ℕ)
unsupported_there behind (Word w) rest = word_unsupported behind w rest
unsupported_there behind (SignWord s) rest = sign_unsupported s
unsupported_there behind (Quoted n) rest = None
unsupported_there behind (Number n) rest = None
unsupported_there behind (Text t) rest = None
unsupported_there behind (Param p) rest = None

abbrev pub or_else : Option (List ℕ) → Option (List ℕ) → Option (List ℕ)
or_else (Some x) y = Some x
or_else None y = y

unfoldable pub scan : Behind → List Lexeme → Option (List ℕ)
scan behind [] = None
scan behind (x ∷ xs) = or_else (unsupported_there behind x xs) (scan (after behind x) xs)
