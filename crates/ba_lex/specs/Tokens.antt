-- The tokens of a text, from left to right, or the fault of the least position.
use Rattle.std.specs.Prelude.{◌≡◌, ◌≢◌, ◌<◌, slice_index, ℕ, zero, suc, ◌+◌, ◌-◌, ℤ, pos, neg_ℤ, Bool, true, false, not, ◌&&◌, ◌==◌, nat_lt, List, [], ◌∷◌, length, take, drop, map, Option, Some, None, option_map, Result, Ok, Err, if◌then◌else◌}
use Rattle.std.specs.List.{prefix_len}
use Rattle.std.specs.Option.{option_map_or}
use Rattle.std.specs.Str.{is_utf8}
use Rattle.ba_lex.specs.Spelling.{IsToken, are_name_bytes, digits_value, fits, is_blank, is_digit, is_letter, is_name_quote, is_word_byte}
use Rattle.ba_lex.specs.declared.front.Piece.{Piece}
use Rattle.ba_lex.specs.declared.front.Piece.TheVariants.{Gap, Found, Bad}
use Rattle.ba_lex.specs.declared.front.Shape.{Shape}
use Rattle.ba_lex.specs.declared.front.Shape.TheVariants.{Word, Quoted, Number, Text, Param, Sign as SignShape}
use Rattle.ba_lex.specs.declared.token.LexFault.{LexFault}
use Rattle.ba_lex.specs.declared.token.LexFault.TheVariants.{TooLong, BadByte, OpenQuote, NumberTooLarge}
use Rattle.ba_lex.specs.declared.token.Lexeme.{Lexeme}
use Rattle.ba_lex.specs.declared.token.Lexeme.TheVariants as lexemes
use Rattle.ba_lex.specs.declared.token.Sign.{Sign}
use Rattle.ba_lex.specs.declared.token.Sign.TheVariants.{LeftParen, RightParen, Comma, Dot, Semicolon, Star, Equal, NotEqual, BangEqual, Less, LessEqual, Greater, GreaterEqual, Plus, Minus, Slash, Percent}
use Rattle.ba_lex.specs.declared.token.Token.{Token}
use Rattle.ba_model.specs.Readings.{◌>>=◌}

-- ---- what stands at the front: white space or a comment, a token of some shape, a fault; each with its length

-- A text behind its first quote, with its last one. A quote inside is doubled, so the first that no quote follows ends it.
abbrev pub quote_after : Bool → ℕ → Option Bool
quote_after true b = if b == 39 then Some false else None
quote_after false b = Some (b == 39)

unfoldable pub text_len : Bool → List ℕ → Option ℕ
text_len after_quote [] = if after_quote then Some 0 else None
text_len after_quote (b ∷ bs) = option_map_or (λ q. option_map suc (text_len q bs)) (quote_after after_quote b) (Some 0)

abbrev pub text : List ℕ → Piece
text bs = option_map_or (λ n. Found Text (n + 1)) (text_len false bs) (Bad OpenQuote)

-- behind the quote q, of which n bytes stand before the next q
abbrev pub name_of_len : ℕ → List ℕ → Piece
name_of_len n bs =
    if n == length bs then Bad OpenQuote
    else (if are_name_bytes (take n bs) then Found Quoted (n + 2) else Bad BadByte)

abbrev pub name : ℕ → List ℕ → Piece
name q bs = name_of_len (prefix_len (λ b. not (b == q)) bs) bs

abbrev pub param : List ℕ → Piece
param [] = Bad BadByte
param (b ∷ bs) = if is_letter b then Found Param (prefix_len is_word_byte bs + 2) else Bad BadByte

-- behind a `-`
abbrev pub dash : List ℕ → Piece
dash [] = Found (SignShape Minus) 1
dash (b ∷ bs) =
    if b == 45 then Gap (prefix_len (λ c. not (c == 10)) bs + 2)
    else (if is_digit b then Found Number (prefix_len is_digit bs + 2) else Found (SignShape Minus) 1)

abbrev pub pair_after : ℕ → ℕ → Option Sign
pair_after b c =
    if b == 60 then (if c == 62 then Some NotEqual else (if c == 61 then Some LessEqual else None))
    else (if b == 62 then (if c == 61 then Some GreaterEqual else None)
    else (if b == 33 then (if c == 61 then Some BangEqual else None)
    else None))

-- a sign of two bytes
abbrev pub pair : ℕ → List ℕ → Option Sign
pair b [] = None
pair b (c ∷ cs) = pair_after b c

-- a sign of one byte
abbrev pub single : ℕ → Option Sign
single b =
    if b == 40 then Some LeftParen
    else (if b == 41 then Some RightParen
    else (if b == 44 then Some Comma
    else (if b == 46 then Some Dot
    else (if b == 59 then Some Semicolon
    else (if b == 42 then Some Star
    else (if b == 61 then Some Equal
    else (if b == 60 then Some Less
    else (if b == 62 then Some Greater
    else (if b == 43 then Some Plus
    else (if b == 47 then Some Slash
    else (if b == 37 then Some Percent
    else None)))))))))))

abbrev pub sign_of_len : Option Sign → ℕ → Piece → Piece
sign_of_len (Some x) n other = Found (SignShape x) n
sign_of_len None n other = other

abbrev pub sign : ℕ → List ℕ → Piece
sign b bs = sign_of_len (pair b bs) 2 (sign_of_len (single b) 1 (Bad BadByte))

-- what stands at the front of b and the bytes behind it
unfoldable pub front : ℕ → List ℕ → Piece
front b bs =
    if is_blank b then Gap 1
    else (if is_letter b then Found Word (prefix_len is_word_byte bs + 1)
    else (if is_digit b then Found Number (prefix_len is_digit bs + 1)
    else (if b == 45 then dash bs
    else (if is_name_quote b then name b bs
    else (if b == 39 then text bs
    else (if b == 63 then param bs
    else sign b bs))))))

-- ---- what a spelling of a shape says

-- without the first byte and the last
abbrev pub inside : List ℕ → List ℕ
inside spelling = take (length spelling - 2) (drop 1 spelling)

abbrev pub HasNoQuote : List ℕ → Type 0
HasNoQuote bytes = (k : ℕ) → k < length bytes → slice_index bytes k ≢ 39

-- without a quote at the front
abbrev pub after_quote : List ℕ → List ℕ
after_quote [] = []
after_quote (b ∷ bs) = if b == 39 then bs else b ∷ bs

-- without each quote that directly follows one that is kept
unfoldable pub undoubled : Bool → List ℕ → List ℕ
undoubled after_quote [] = []
undoubled after_quote (b ∷ bs) = if after_quote && (b == 39) then undoubled false bs else b ∷ undoubled (b == 39) bs

abbrev pub signed_value : List ℕ → ℤ
signed_value [] = pos 0
signed_value (b ∷ bs) = if b == 45 then neg_ℤ (pos (digits_value bs)) else pos (digits_value (b ∷ bs))

abbrev pub number_of : ℤ → Result Lexeme LexFault
number_of n = if fits n then Ok (lexemes.Number n) else Err NumberTooLarge

unfoldable pub lexeme_of : Shape → List ℕ → Result Lexeme LexFault
lexeme_of Word spelling = Ok (lexemes.Word spelling)
lexeme_of Quoted spelling = Ok (lexemes.Quoted (inside spelling))
lexeme_of Number spelling = number_of (signed_value spelling)
lexeme_of Text spelling = Ok (lexemes.Text (undoubled false (inside spelling)))
lexeme_of Param spelling = Ok (lexemes.Param (drop 1 spelling))
lexeme_of (SignShape x) spelling = Ok (lexemes.Sign x)

-- ---- all tokens

abbrev pub token : Lexeme → ℕ → ℕ → Token
token x start end = record { lexeme = x; start = start; end = end }

-- what stands at the front of spelling, which is at this place, and then what more gives
abbrev pub with_front : Piece → List ℕ → ℕ → (ℕ → ℕ → Result (List Token) LexFault) → Result (List Token) LexFault
with_front (Gap n) bytes at more = more (n - 1) (at + 1)
with_front (Bad f) bytes at more = Err f
with_front (Found shape n) bytes at more =
    lexeme_of shape (take n bytes) >>= λ x. (more (n - 1) (at + 1) >>= λ ts. Ok (token x at (at + n) ∷ ts))

-- the tokens of the bytes from a place on, of which the first ones, skipped, belong to what was read before
unfoldable pub tokens_from : List ℕ → ℕ → ℕ → Result (List Token) LexFault
tokens_from [] skipped at = Ok []
tokens_from (b ∷ bs) (suc skipped) at = tokens_from bs skipped (at + 1)
tokens_from (b ∷ bs) zero at = with_front (front b bs) (b ∷ bs) at (tokens_from bs)

-- the tokens of a text of at most limit bytes
unfoldable pub tokens_of : ℕ → List ℕ → Result (List Token) LexFault
tokens_of limit bytes = if nat_lt limit (length bytes) then Err TooLong else tokens_from bytes 0 0

-- the tokens of a file: it must be UTF-8 before it is read
unfoldable pub file_tokens_of : ℕ → List ℕ → Result (List Token) LexFault
file_tokens_of limit bytes =
    if nat_lt limit (length bytes) then Err TooLong
    else (if is_utf8 bytes then tokens_from bytes 0 0 else Err BadByte)

-- what the tokens say
abbrev pub lexemes_of : List Token → List Lexeme
lexemes_of = map (λ t. t.lexeme)

abbrev pub shape_of : Lexeme → Shape
shape_of (lexemes.Word word) = Word
shape_of (lexemes.Quoted name) = Quoted
shape_of (lexemes.Number n) = Number
shape_of (lexemes.Text text) = Text
shape_of (lexemes.Param name) = Param
shape_of (lexemes.Sign sign) = SignShape sign

-- the bytes spell a token of the shape
pub record IsOfShape (shape : Shape) (spelling : List ℕ) : Type 0 where
  pub lexeme : Lexeme
  pub is_shape : shape_of lexeme ≡ shape
  pub spelled : IsToken spelling lexeme
