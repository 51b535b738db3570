-- The first unsupported word outside of the queries of inclusion rules.
use Rattle.std.specs.Prelude.{◌≡◌, ◌≢◌, ℕ, zero, suc, IsTrue, List, [], ◌∷◌, ◌++◌, length, All, Contains, Option, Some, None, if◌then◌else◌}
use Rattle.ba_grammar.specs.Front.{is_sign}
use Rattle.ba_lex.specs.Word.{is_word}
use Rattle.ba_lex.specs.declared.token.Lexeme.{Lexeme}
use Rattle.ba_lex.specs.declared.token.Lexeme.TheVariants.{Word, Quoted, Number, Text, Param, Sign as SignWord}
use Rattle.ba_lex.specs.declared.token.Sign.TheVariants.{Semicolon}
use Rattle.ba_sql_ddl.specs.Brackets.{Leaves, from_close}
use Rattle.ba_sql_ddl.specs.Reader.{behind_rule, behind_within}
use Rattle.ba_sql_ddl.specs.Written.{Begins, rule_opens, unsupported, within_opens}

-- the first of the keywords that the word is, in any case
abbrev pub keyword_of : List (List ℕ) → List ℕ → Option (List ℕ)
keyword_of [] word = None
keyword_of (k ∷ ks) word = if is_word word k then Some k else keyword_of ks word

unfoldable pub unsupported_keyword : List ℕ → Option (List ℕ)
unsupported_keyword word = keyword_of unsupported word

-- the unsupported word that this is, in upper case
abbrev pub unsupported_of : Lexeme → Option (List ℕ)
unsupported_of (Word w) = unsupported_keyword w
unsupported_of (Quoted n) = None
unsupported_of (Number n) = None
unsupported_of (Text t) = None
unsupported_of (Param p) = None
unsupported_of (SignWord s) = None

abbrev pub or_later : Option (List ℕ) → Option (List ℕ) → Option (List ℕ)
or_later (Some k) later = Some k
or_later None later = later

abbrev pub first_unsupported : List Lexeme → Option (List ℕ)
first_unsupported [] = None
first_unsupported (x ∷ xs) = or_later (unsupported_of x) (first_unsupported xs)

-- ---- the words outside of the queries of inclusion rules

abbrev pub past_right : Option (List Lexeme) → List Lexeme → List Lexeme
past_right None rest = rest
past_right (Some right) rest = from_close right

abbrev pub past_left : Option (List Lexeme) → List Lexeme → List Lexeme
past_left None words = words
past_left (Some left) words = past_right (behind_within (from_close left)) (from_close left)

-- where a statement begins with these words: those behind the queries of a rule, or all of them
unfoldable pub past_queries : List Lexeme → List Lexeme
past_queries words = past_left (behind_rule words) words

-- a statement begins behind each `;`
abbrev pub behind_word : Lexeme → List Lexeme → List Lexeme
behind_word x xs = if is_sign Semicolon x then past_queries xs else xs

-- of at most fuel words
unfoldable pub scan_from : ℕ → List Lexeme → Option (List ℕ)
scan_from zero words = None
scan_from (suc fuel) [] = None
scan_from (suc fuel) (x ∷ xs) = or_later (unsupported_of x) (scan_from fuel (behind_word x xs))

-- the first unsupported word of a text
unfoldable pub scan : List Lexeme → Option (List ℕ)
scan words = scan_from (length words) (past_queries words)

-- ---- the same, as a relation

-- What stands behind the queries of a rule, where a statement begins with these words. Its left query stands behind RULE "(" and goes to the bracket that
-- matches, its right one behind ")" WITHIN "(". A query whose bracket stays open has all words.
pub data PastQueries : List Lexeme → List Lexeme → Type 0 where
  none : {words : List Lexeme} → ((left : List Lexeme) → ¬ Begins rule_opens words left) → PastQueries words words
  one : {words left rest : List Lexeme} → Begins rule_opens words left → Leaves left rest → ((right : List Lexeme) → ¬ Begins within_opens rest right) → PastQueries words rest
  two : {words left middle right rest : List Lexeme} → Begins rule_opens words left → Leaves left middle → Begins within_opens middle right → Leaves right rest → PastQueries words rest

-- of the words of a statement, and of the statements behind it, those that stand outside of queries
pub data AreOutside : List Lexeme → List Lexeme → Type 0 where
  none : AreOutside [] []
  word : {x : Lexeme} {xs outside : List Lexeme} → x ≢ SignWord Semicolon → AreOutside xs outside → AreOutside (x ∷ xs) (x ∷ outside)
  ends : {xs rest outside : List Lexeme} → PastQueries xs rest → AreOutside rest outside → AreOutside (SignWord Semicolon ∷ xs) (SignWord Semicolon ∷ outside)

-- the words of a text that are scanned: those outside of the queries of its rules
pub record AreScanned (words scanned : List Lexeme) : Type 0 where
  pub rest : List Lexeme
  pub begins : PastQueries words rest
  pub outside : AreOutside rest scanned

-- the lexeme is an unquoted word, which is the unsupported one k up to the case of its letters
pub record IsUnsupported (k : List ℕ) (x : Lexeme) : Type 0 where
  pub word : List ℕ
  pub is : x ≡ Word word
  pub among : Contains unsupported k
  pub same : IsTrue (is_word word k)

pub record IsSupported (x : Lexeme) : Type 0 where
  pub none : (k : List ℕ) → IsUnsupported k x → ⊥

-- k is the first of the words that is unsupported
pub record IsFirstUnsupported (k : List ℕ) (words : List Lexeme) : Type 0 where
  pub before : List Lexeme
  pub word : Lexeme
  pub after : List Lexeme
  pub are : words ≡ before ++ word ∷ after
  pub supported : All IsSupported before
  pub unsupported : IsUnsupported k word

-- no word that is scanned is unsupported
pub record AreSupported (words : List Lexeme) : Type 0 where
  pub scanned : List Lexeme
  pub are : AreScanned words scanned
  pub each : All IsSupported scanned

-- k is the first of the words that are scanned that is unsupported
pub record HasFirst (k : List ℕ) (words : List Lexeme) : Type 0 where
  pub scanned : List Lexeme
  pub are : AreScanned words scanned
  pub first : IsFirstUnsupported k scanned
