-- Words in brackets.
use Rattle.std.specs.Prelude.{◌≢◌, ℕ, zero, suc, List, [], ◌∷◌, ◌++◌, take, drop, if◌then◌else◌}
use Rattle.ba_grammar.specs.Front.{is_sign}
use Rattle.ba_lex.specs.declared.token.Lexeme.{Lexeme}
use Rattle.ba_lex.specs.declared.token.Lexeme.TheVariants.{Sign as SignWord}
use Rattle.ba_lex.specs.declared.token.Sign.TheVariants.{LeftParen, RightParen}

abbrev pub opening : Lexeme
opening = SignWord LeftParen

abbrev pub closing : Lexeme
closing = SignWord RightParen

-- each bracket that opens has one behind it that closes it, and each that closes has one before it that it closes
pub data AreBalanced : List Lexeme → Type 0 where
  none : AreBalanced []
  word : {x : Lexeme} {xs : List Lexeme} → x ≢ opening → x ≢ closing → AreBalanced xs → AreBalanced (x ∷ xs)
  brackets : {inner xs : List Lexeme} → AreBalanced inner → AreBalanced xs → AreBalanced (opening ∷ (inner ++ closing ∷ xs))

-- no bracket among the words closes the one before them
abbrev pub StaysOpen : List Lexeme → Type 0
StaysOpen words = (inner rest : List Lexeme) → AreBalanced inner → words ≢ inner ++ closing ∷ rest

-- what is left of the words behind a bracket from the one on that closes it; nothing where it stays open
pub data Leaves : List Lexeme → List Lexeme → Type 0 where
  closed : {inner rest : List Lexeme} → AreBalanced inner → Leaves (inner ++ closing ∷ rest) (closing ∷ rest)
  open_ended : {words : List Lexeme} → StaysOpen words → Leaves words []

-- ---- the same from the left

-- how many words stand before the bracket that closes the one before them, where so many more are open; all of them where it stays open
unfoldable pub close_at : ℕ → List Lexeme → ℕ
close_at depth [] = 0
close_at zero (x ∷ xs) =
    if is_sign LeftParen x then suc (close_at (suc zero) xs)
    else (if is_sign RightParen x then 0 else suc (close_at zero xs))
close_at (suc depth) (x ∷ xs) =
    if is_sign LeftParen x then suc (close_at (suc (suc depth)) xs)
    else (if is_sign RightParen x then suc (close_at depth xs) else suc (close_at (suc depth) xs))

abbrev pub inside : List Lexeme → List Lexeme
inside words = take (close_at 0 words) words

abbrev pub from_close : List Lexeme → List Lexeme
from_close words = drop (close_at 0 words) words
