-- Words read from the left: what stands at their front, and the words behind it.
use Rattle.std.specs.Prelude.{ℕ, zero, suc, ℤ, Bool, false, ◌==◌, List, [], ◌∷◌, drop, length, Option, Some, None, Result, Ok, Err, if◌then◌else◌}
use Rattle.ba_lex.specs.Word.{is_word}
use Rattle.ba_lex.specs.declared.token.Lexeme.{Lexeme}
use Rattle.ba_lex.specs.declared.token.Lexeme.TheVariants.{Word, Quoted, Number, Text, Param, Sign as SignWord}
use Rattle.ba_lex.specs.declared.token.Sign.{Sign}
use Rattle.ba_model.specs.Readings.{◌>>=◌}
use Rattle.ba_grammar.specs.Items.{is_among, sign_number}
use Rattle.ba_grammar.specs.declared.error.Syntax.{Syntax}

abbrev pub syntax : Syntax
syntax = record {}

-- what was read, and the words behind it
abbrev pub ReadOf : Type 0 → Type 0 → Type 0
ReadOf W A = Result (A × List W) Syntax

abbrev pub Read : Type 0 → Type 0
Read A = ReadOf Lexeme A

-- ---- one word

abbrev pub is_keyword : List ℕ → Lexeme → Bool
is_keyword k (Word w) = is_word w k
is_keyword k (Quoted n) = false
is_keyword k (Number n) = false
is_keyword k (Text t) = false
is_keyword k (Param p) = false
is_keyword k (SignWord s) = false

abbrev pub word_of : Lexeme → Option (List ℕ)
word_of (Word w) = Some w
word_of (Quoted n) = None
word_of (Number n) = None
word_of (Text t) = None
word_of (Param p) = None
word_of (SignWord s) = None

abbrev pub begins : {W : Type 0} → (W → Bool) → List W → Bool
begins test [] = false
begins test (x ∷ xs) = test x

-- the words behind the first, which passes the test
abbrev pub past : {W : Type 0} → (W → Bool) → List W → Result (List W) Syntax
past test [] = Err syntax
past test (x ∷ xs) = if test x then Ok xs else Err syntax

-- without the first, if it passes the test
abbrev pub skip : {W : Type 0} → (W → Bool) → List W → List W
skip test [] = []
skip test (x ∷ xs) = if test x then xs else x ∷ xs

abbrev pub is_sign : Sign → Lexeme → Bool
is_sign s (SignWord t) = sign_number t == sign_number s
is_sign s (Word w) = false
is_sign s (Quoted n) = false
is_sign s (Number n) = false
is_sign s (Text t) = false
is_sign s (Param p) = false

abbrev pub any_of : Lexeme → List Lexeme → Read (List ℕ)
any_of (Word w) rest = Ok (w, rest)
any_of (Quoted n) rest = Err syntax
any_of (Number n) rest = Err syntax
any_of (Text t) rest = Err syntax
any_of (Param p) rest = Err syntax
any_of (SignWord s) rest = Err syntax

unfoldable pub any_at : List Lexeme → Read (List ℕ)
any_at [] = Err syntax
any_at (x ∷ xs) = any_of x xs

-- a word that isn't reserved, or a quoted name
abbrev pub name_of : List (List ℕ) → Lexeme → List Lexeme → Read (List ℕ)
name_of reserved (Word w) rest = if is_among reserved w then Err syntax else Ok (w, rest)
name_of reserved (Quoted n) rest = Ok (n, rest)
name_of reserved (Number n) rest = Err syntax
name_of reserved (Text t) rest = Err syntax
name_of reserved (Param p) rest = Err syntax
name_of reserved (SignWord s) rest = Err syntax

unfoldable pub name_at : List (List ℕ) → List Lexeme → Read (List ℕ)
name_at reserved [] = Err syntax
name_at reserved (x ∷ xs) = name_of reserved x xs

abbrev pub number_of : Lexeme → List Lexeme → Read ℤ
number_of (Number n) rest = Ok (n, rest)
number_of (Word w) rest = Err syntax
number_of (Quoted n) rest = Err syntax
number_of (Text t) rest = Err syntax
number_of (Param p) rest = Err syntax
number_of (SignWord s) rest = Err syntax

unfoldable pub number_at : List Lexeme → Read ℤ
number_at [] = Err syntax
number_at (x ∷ xs) = number_of x xs

-- ---- several, of which item reads one; there are at most fuel of them

-- those behind commas
unfoldable pub more : {W X : Type 0} → (W → Bool) → (List W → ReadOf W X) → ℕ → List W → ReadOf W (List X)
more comma item zero words = Ok ([], words)
more comma item (suc fuel) words =
    if begins comma words then (item (drop 1 words) >>= λ x. (more comma item fuel x.1 >>= λ y. Ok (x.0 ∷ y.0, y.1)))
    else Ok ([], words)

-- one, and those behind commas
abbrev pub listed : {W X : Type 0} → (W → Bool) → (List W → ReadOf W X) → List W → ReadOf W (List X)
listed comma item words = item words >>= λ x. (more comma item (length words) x.1 >>= λ y. Ok (x.0 ∷ y.0, y.1))

-- one after the other, all of the words
unfoldable pub all : {X : Type 0} → (List Lexeme → Read X) → ℕ → List Lexeme → Result (List X) Syntax
all item fuel [] = Ok []
all item zero (w ∷ ws) = Err syntax
all item (suc fuel) (w ∷ ws) = item (w ∷ ws) >>= λ x. (all item fuel x.1 >>= λ xs. Ok (x.0 ∷ xs))
