-- What stands at the front is a spelling of its shape.
use Rattle.std.proofs.Common.{◌≡◌, ℕ, suc, ◌-◌, ◌<◌, ◌≤◌, ℤ, pos, neg_ℤ, Bool, true, nat_le, List, [], ◌∷◌, ◌++◌, length, drop, get_or, ◌⊎◌, inl, inr, refl, sym, subst, arith, length-append}
use Rattle.std.specs.List.{list_all}
use Rattle.std.specs.Str.{IsAscii, IsUtf8}
use Rattle.std.proofs.lemmas.Bool.{and_parts, leb-true, or_cases}
use Rattle.std.proofs.lemmas.Bool.Decides.{nat_tests}
use Rattle.std.proofs.lemmas.List.{get_or_at}
use Rattle.std.proofs.lemmas.Str.{IsCharBoundary-after_ascii, IsCharBoundary-before_ascii, IsUtf8-between, IsUtf8-drop}
use Rattle.std.proofs.lemmas.Str.Ascii.{IsAscii-cons, IsAscii-nil}
use Rattle.ba_lex.specs.Spelling.{IsToken, SpellsNumber, are_digits, are_name_bytes, are_word_bytes, digits_value, doubled, is_digit, is_letter, is_name_byte, is_name_quote, is_word_byte, sign_bytes}
use Rattle.ba_lex.specs.Tokens.{IsOfShape, inside, shape_of}
use Rattle.ba_lex.specs.declared.front.Shape.{Shape}
use Rattle.ba_lex.specs.declared.front.Shape.TheVariants as shapes
use Rattle.ba_lex.specs.declared.token.Lexeme.{Lexeme}
use Rattle.ba_lex.specs.declared.token.Lexeme.TheVariants as lexemes
use Rattle.ba_lex.specs.declared.token.Sign.{Sign}
use Rattle.ba_lex.specs.declared.token.Sign.TheVariants.{LeftParen, RightParen, Comma, Dot, Semicolon, Star, Equal, NotEqual, BangEqual, Less, LessEqual, Greater, GreaterEqual, Plus, Minus, Slash, Percent}

-- ---- the bytes of spellings are ASCII, but for those inside a text

digit_ascii : (b : ℕ) → is_digit b ≡ true → b < 128
digit_ascii b h = let p = and_parts (nat_le 48 b) (nat_le b 57) h in omega (arith, leb-true b 57 p.1)

letter_ascii : (b : ℕ) → is_letter b ≡ true → b < 128
letter_ascii b h = grind (arith, nat_tests)

word_byte_ascii : (b : ℕ) → is_word_byte b ≡ true → b < 128
word_byte_ascii b h = by (or_cases (is_letter b) (is_digit b) h)
  where
    by : (is_letter b ≡ true) ⊎ (is_digit b ≡ true) → b < 128
    by (inl e) = letter_ascii b e
    by (inr e) = digit_ascii b e

name_byte_ascii : (b : ℕ) → is_name_byte b ≡ true → b < 128
name_byte_ascii b h = grind (arith, nat_tests)

quote_ascii : (b : ℕ) → is_name_quote b ≡ true → b < 128
quote_ascii b h = grind (arith, nat_tests)

all_ascii : (p : ℕ → Bool) → ((b : ℕ) → p b ≡ true → b < 128) → (bs : List ℕ) → list_all p bs ≡ true → IsAscii bs
all_ascii p each [] h = IsAscii-nil
all_ascii p each (b ∷ bs) h = let q = and_parts (p b) (list_all p bs) h in IsAscii-cons b bs (each b q.0) (all_ascii p each bs q.1)

word_ascii : (w : List ℕ) → are_word_bytes w ≡ true → IsAscii w × (0 < length w)
word_ascii [] h = cc
word_ascii (b ∷ bs) h = let q = and_parts (is_letter b) (list_all is_word_byte bs) h in (IsAscii-cons b bs (letter_ascii b q.0) (all_ascii is_word_byte word_byte_ascii bs q.1), omega arith)

name_ascii : (w : List ℕ) → are_name_bytes w ≡ true → IsAscii w
name_ascii [] h = cc
name_ascii (b ∷ bs) h = let q = and_parts (is_name_byte b) (list_all is_name_byte bs) h in IsAscii-cons b bs (name_byte_ascii b q.0) (all_ascii is_name_byte name_byte_ascii bs q.1)

digits_ascii : (w : List ℕ) → are_digits w ≡ true → IsAscii w × (0 < length w)
digits_ascii [] h = cc
digits_ascii (b ∷ bs) h = let q = and_parts (is_digit b) (list_all is_digit bs) h in (IsAscii-cons b bs (digit_ascii b q.0) (all_ascii is_digit digit_ascii bs q.1), omega arith)

-- the first byte and the last are ASCII
pub record HasEdges (s : List ℕ) : Type 0 where
  pub some : 0 < length s
  pub first : get_or s 0 0 < 128
  pub last : get_or s (length s - 1) 0 < 128

ascii_edges : (s : List ℕ) → 0 < length s → IsAscii s → HasEdges s
ascii_edges s some h = record { some = some; first = h 0; last = h (length s - 1) }

-- a byte at each end, the same
quoted_edges : (q : ℕ) (w : List ℕ) → q < 128 → HasEdges (q ∷ (w ++ q ∷ []))
quoted_edges q w h =
    let size : length (q ∷ (w ++ q ∷ [])) - 1 ≡ suc (length w) = omega (arith, length-append w (q ∷ [])) in
    record { some = omega arith; first = h; last = rw size (rw (get_or_at w q [] 0 (length w) refl) h) }

sign_edges : (x : Sign) → HasEdges (sign_bytes x)
sign_edges LeftParen = record { some = omega arith; first = omega arith; last = omega arith }
sign_edges RightParen = record { some = omega arith; first = omega arith; last = omega arith }
sign_edges Comma = record { some = omega arith; first = omega arith; last = omega arith }
sign_edges Dot = record { some = omega arith; first = omega arith; last = omega arith }
sign_edges Semicolon = record { some = omega arith; first = omega arith; last = omega arith }
sign_edges Star = record { some = omega arith; first = omega arith; last = omega arith }
sign_edges Equal = record { some = omega arith; first = omega arith; last = omega arith }
sign_edges NotEqual = record { some = omega arith; first = omega arith; last = omega arith }
sign_edges BangEqual = record { some = omega arith; first = omega arith; last = omega arith }
sign_edges Less = record { some = omega arith; first = omega arith; last = omega arith }
sign_edges LessEqual = record { some = omega arith; first = omega arith; last = omega arith }
sign_edges Greater = record { some = omega arith; first = omega arith; last = omega arith }
sign_edges GreaterEqual = record { some = omega arith; first = omega arith; last = omega arith }
sign_edges Plus = record { some = omega arith; first = omega arith; last = omega arith }
sign_edges Minus = record { some = omega arith; first = omega arith; last = omega arith }
sign_edges Slash = record { some = omega arith; first = omega arith; last = omega arith }
sign_edges Percent = record { some = omega arith; first = omega arith; last = omega arith }

number_edges : (s : List ℕ) (n : ℤ) → SpellsNumber s n → HasEdges s
number_edges s n h = by h.sign
  where
    by : ((s ≡ h.digits) × (n ≡ pos (digits_value h.digits))) ⊎ ((s ≡ 45 ∷ h.digits) × (n ≡ neg_ℤ (pos (digits_value h.digits)))) → HasEdges s
    by (inl e) = let a = digits_ascii h.digits h.are in subst HasEdges (sym e.0) (ascii_edges h.digits a.1 a.0)
    by (inr e) = let a = digits_ascii h.digits h.are in subst HasEdges (sym e.0) (ascii_edges (45 ∷ h.digits) (omega arith) (IsAscii-cons 45 h.digits (omega arith) a.0))

pub token_edges : (s : List ℕ) (x : Lexeme) → IsToken s x → HasEdges s
token_edges s (lexemes.Word w) h = let a = word_ascii w h.0 in subst HasEdges (sym h.1) (ascii_edges w a.1 a.0)
token_edges s (lexemes.Quoted w) h = subst HasEdges (sym h.all) (quoted_edges h.quote w (quote_ascii h.quote h.is_quote))
token_edges s (lexemes.Number n) h = number_edges s n h
token_edges s (lexemes.Text t) h = subst HasEdges (sym h) (quoted_edges 39 (doubled t) (omega arith))
token_edges s (lexemes.Param w) h = let a = word_ascii w h.0 in subst HasEdges (sym h.1) (ascii_edges (63 ∷ w) (omega arith) (IsAscii-cons 63 w (omega arith) a.0))
token_edges s (lexemes.Sign x) h = subst HasEdges (sym h) (sign_edges x)

quoted_size : (q : ℕ) (w : List ℕ) → 2 ≤ length (q ∷ (w ++ q ∷ []))
quoted_size q w = omega (arith, length-append w (q ∷ []))

two_from : (s : List ℕ) (x : Lexeme) → (shape_of x ≡ shapes.Quoted) ⊎ (shape_of x ≡ shapes.Text) → IsToken s x → 2 ≤ length s
two_from s (lexemes.Quoted w) e h = subst (λ (t : List ℕ). 2 ≤ length t) (sym h.all) (quoted_size h.quote w)
two_from s (lexemes.Text t) e h = subst (λ (u : List ℕ). 2 ≤ length u) (sym h) (quoted_size 39 (doubled t))
two_from s (lexemes.Word w) (inl e) h = cc
two_from s (lexemes.Word w) (inr e) h = cc
two_from s (lexemes.Number w) (inl e) h = cc
two_from s (lexemes.Number w) (inr e) h = cc
two_from s (lexemes.Param w) (inl e) h = cc
two_from s (lexemes.Param w) (inr e) h = cc
two_from s (lexemes.Sign w) (inl e) h = cc
two_from s (lexemes.Sign w) (inr e) h = cc

pub quoted_two : (s : List ℕ) → IsOfShape shapes.Quoted s → 2 ≤ length s
quoted_two s h = two_from s h.lexeme (inl h.is_shape) h.spelled

pub text_two : (s : List ℕ) → IsOfShape shapes.Text s → 2 ≤ length s
text_two s h = two_from s h.lexeme (inr h.is_shape) h.spelled

pub shape_edges : (k : Shape) (s : List ℕ) → IsOfShape k s → HasEdges s
shape_edges k s h = token_edges s h.lexeme h.spelled

pub inside_utf8 : (s : List ℕ) → IsUtf8 s → 2 ≤ length s → HasEdges s → IsUtf8 (inside s)
inside_utf8 s u two h =
    let size : (length s - 1) - 1 ≡ length s - 2 = omega arith in
    rw size at (IsUtf8-between s 1 (length s - 1) u (omega arith) (IsCharBoundary-after_ascii s 0 u h.some h.first) (IsCharBoundary-before_ascii s (length s - 1) (omega (arith, h.some)) h.last))

pub behind_utf8 : (s : List ℕ) → IsUtf8 s → HasEdges s → IsUtf8 (drop 1 s)
behind_utf8 s u h = IsUtf8-drop s 1 u (IsCharBoundary-after_ascii s 0 u h.some h.first)
