-- Which fault a text has: more bytes than its limit, else the first from the left.
use Rattle.std.specs.Prelude.{◌≡◌, ◌≢◌, ◌↔◌, ◌⊎◌, ℕ, ◌<◌, ◌≤◌, ℤ, IsTrue, false, List, ◌∷◌, ◌++◌, length, All, Err}
use Rattle.std.specs.Str.{IsUtf8}
use Rattle.ba_lex.specs.Reading.{IsLongest, ReadsTo}
use Rattle.ba_lex.specs.Spelling.{IsToken, SpellsNumber, doubled, fits, is_blank, is_name_quote}
use Rattle.ba_lex.specs.Tokens.{file_tokens_of, tokens_of}
use Rattle.ba_lex.specs.declared.token.LexFault.{LexFault}
use Rattle.ba_lex.specs.declared.token.LexFault.TheVariants.{TooLong, BadByte, OpenQuote, NumberTooLarge}
use Rattle.ba_lex.specs.declared.token.Lexeme.{Lexeme}
use Rattle.ba_lex.specs.declared.token.Token.{Token}

-- behind a quote all quotes are doubled, up to the end
pub record IsOpenText (bytes : List ℕ) : Type 0 where
  pub inside : List ℕ
  pub all : bytes ≡ 39 ∷ doubled inside

-- behind a name's quote no other like it follows
pub record IsOpenName (bytes : List ℕ) : Type 0 where
  pub quote : ℕ
  pub behind : List ℕ
  pub is_quote : IsTrue (is_name_quote quote)
  pub all : bytes ≡ quote ∷ behind
  pub no_end : All (λ b. b ≢ quote) behind

-- a quote without its end
abbrev pub IsOpenQuote : List ℕ → Type 0
IsOpenQuote bytes = IsOpenText bytes ⊎ IsOpenName bytes

-- a number past 64 bits
pub record IsTooLarge (bytes : List ℕ) : Type 0 where
  pub spelling : List ℕ
  pub rest : List ℕ
  pub number : ℤ
  pub all : bytes ≡ spelling ++ rest
  pub spelled : SpellsNumber spelling number
  pub longest : IsLongest spelling rest
  pub past : fits number ≡ false

-- any other byte that begins neither white space nor a token (a comment begins as the sign `-` does)
pub record IsBadByte (bytes : List ℕ) : Type 0 where
  pub byte : ℕ
  pub behind : List ℕ
  pub all : bytes ≡ byte ∷ behind
  pub no_blank : is_blank byte ≡ false
  pub no_token : (spelling rest : List ℕ) (x : Lexeme) → IsToken spelling x → bytes ≢ spelling ++ rest
  pub no_quote : ¬ IsOpenQuote bytes

-- the bytes begin with the fault
abbrev pub Begins : LexFault → List ℕ → Type 0
Begins TooLong bytes = ⊥
Begins BadByte bytes = IsBadByte bytes
Begins OpenQuote bytes = IsOpenQuote bytes
Begins NumberTooLarge bytes = IsTooLarge bytes

-- the text has tokens up to what is left, which begins with the fault
pub record StopsAt (fault : LexFault) (text : List ℕ) : Type 0 where
  pub tokens : List Token
  pub left : List ℕ
  pub before : ReadsTo left 0 text tokens
  pub here : Begins fault left

abbrev pub HasFault : ℕ → List ℕ → LexFault → Type 0
HasFault limit text TooLong = limit < length text
HasFault limit text BadByte = (length text ≤ limit) × StopsAt BadByte text
HasFault limit text OpenQuote = (length text ≤ limit) × StopsAt OpenQuote text
HasFault limit text NumberTooLarge = (length text ≤ limit) × StopsAt NumberTooLarge text

-- a file that isn't UTF-8 has a bad byte
abbrev pub HasFileFault : ℕ → List ℕ → LexFault → Type 0
HasFileFault limit bytes TooLong = limit < length bytes
HasFileFault limit bytes BadByte = (length bytes ≤ limit) × ((¬ IsUtf8 bytes) ⊎ StopsAt BadByte bytes)
HasFileFault limit bytes OpenQuote = (length bytes ≤ limit) × IsUtf8 bytes × StopsAt OpenQuote bytes
HasFileFault limit bytes NumberTooLarge = (length bytes ≤ limit) × IsUtf8 bytes × StopsAt NumberTooLarge bytes

-- ---- the laws: a text, and a file, is told exactly the fault that it has

abbrev pub TellsTextFault : Type 0
TellsTextFault = (limit : ℕ) (text : List ℕ) (fault : LexFault) → (tokens_of limit text ≡ Err fault) ↔ HasFault limit text fault

abbrev pub TellsFileFault : Type 0
TellsFileFault = (limit : ℕ) (bytes : List ℕ) (fault : LexFault) → (file_tokens_of limit bytes ≡ Err fault) ↔ HasFileFault limit bytes fault
