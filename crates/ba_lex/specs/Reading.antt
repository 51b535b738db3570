-- Which tokens a text has: what stands between them is white space and comments, and each token is the longest possible.
use Rattle.std.specs.Prelude.{◌≡◌, ◌≢◌, ◌↔◌, ℕ, ◌+◌, ◌<◌, ◌≤◌, IsTrue, Bool, not, ◌==◌, List, [], ◌∷◌, ◌++◌, length, Ok, slice_range}
use Rattle.std.specs.List.{list_all}
use Rattle.std.specs.Str.{IsUtf8}
use Rattle.ba_lex.specs.Spelling.{IsToken, is_blank, is_in_range}
use Rattle.ba_lex.specs.Tokens.{file_tokens_of, token, tokens_of}
use Rattle.ba_lex.specs.declared.token.Lexeme.{Lexeme}
use Rattle.ba_lex.specs.declared.token.Token.{Token}

-- Each token's slice of the source spells it, within the source, and the slices stand in order from a place on.
abbrev pub AreSpans : List ℕ → ℕ → List Token → Type 0
AreSpans source from [] = Unit {0}
AreSpans source from (t ∷ ts) =
    (from ≤ t.start) × (t.start < t.end) × (t.end ≤ length source) × IsToken (slice_range source t.start t.end) t.lexeme × AreSpans source t.end ts

-- no LF
abbrev pub is_line : List ℕ → Bool
is_line = list_all (λ b. not (b == 10))

-- the text's end, or the line's
abbrev pub EndsLine : List ℕ → Type 0
EndsLine [] = Unit {0}
EndsLine (b ∷ bs) = b ≡ 10

-- no token that begins where this one does is longer, and no comment begins there
pub record IsLongest (spelling rest : List ℕ) : Type 0 where
  pub token : (other more : List ℕ) (y : Lexeme) → IsToken other y → spelling ++ rest ≡ other ++ more → length other ≤ length spelling
  pub no_comment : (more : List ℕ) → spelling ++ rest ≢ 45 ∷ 45 ∷ more

-- the bytes, which begin at this place of the source, have these tokens up to what is left
pub data ReadsTo (left : List ℕ) : ℕ → List ℕ → List Token → Type 0 where
  nothing : {at : ℕ} → ReadsTo left at left []
  blank : {at b : ℕ} {bs : List ℕ} {ts : List Token} → IsTrue (is_blank b) → ReadsTo left (at + 1) bs ts → ReadsTo left at (b ∷ bs) ts
  comment : {at : ℕ} {bytes : List ℕ} {ts : List Token} (line rest : List ℕ) → IsTrue (is_line line) → EndsLine rest → bytes ≡ 45 ∷ 45 ∷ (line ++ rest)
      → ReadsTo left (at + (length line + 2)) rest ts → ReadsTo left at bytes ts
  next : {at : ℕ} {bytes : List ℕ} {ts : List Token} (spelling rest : List ℕ) (x : Lexeme) → IsToken spelling x → IsTrue (is_in_range x) → IsLongest spelling rest
      → bytes ≡ spelling ++ rest → ReadsTo left (at + length spelling) rest ts → ReadsTo left at bytes (token x at (at + length spelling) ∷ ts)

-- up to their end
abbrev pub Reads : ℕ → List ℕ → List Token → Type 0
Reads = ReadsTo []

-- the text is within the limit, and these are its tokens
pub record HasTokens (limit : ℕ) (text : List ℕ) (tokens : List Token) : Type 0 where
  pub within : length text ≤ limit
  pub are : Reads 0 text tokens

-- ---- the laws

-- a text, and a file, is read as exactly the tokens that it has
abbrev pub TextReading : Type 0
TextReading = (limit : ℕ) (text : List ℕ) (tokens : List Token) → (tokens_of limit text ≡ Ok tokens) ↔ HasTokens limit text tokens

abbrev pub FileReading : Type 0
FileReading = (limit : ℕ) (bytes : List ℕ) (tokens : List Token) → (file_tokens_of limit bytes ≡ Ok tokens) ↔ (IsUtf8 bytes × HasTokens limit bytes tokens)

-- and has one list of them at most
abbrev pub TokensAreUnique : Type 0
TokensAreUnique = (text : List ℕ) (tokens others : List Token) → Reads 0 text tokens → Reads 0 text others → tokens ≡ others
