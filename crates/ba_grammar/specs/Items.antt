-- The words of a grammar: which lexeme stands for each.
use Rattle.std.specs.Prelude.{◌≡◌, ◌⊎◌, ℕ, ℤ, Bool, false, IsTrue, List, [], ◌∷◌, ◌++◌}
use Rattle.std.specs.List.{AllZip, flat_map, list_any}
use Rattle.ba_lex.specs.Word.{is_word}
use Rattle.ba_lex.specs.declared.token.Lexeme.{Lexeme}
use Rattle.ba_lex.specs.declared.token.Lexeme.TheVariants.{Word, Quoted, Number, Sign as SignWord}
use Rattle.ba_lex.specs.declared.token.Sign.{Sign}
use Rattle.ba_lex.specs.declared.token.Sign.TheVariants.{LeftParen, RightParen, Comma, Dot, Semicolon, Star, Equal, NotEqual, BangEqual, Less, LessEqual, Greater, GreaterEqual, Plus, Minus, Slash, Percent}

-- the word is one of the keywords, in any case
unfoldable pub is_among : List (List ℕ) → List ℕ → Bool
is_among keywords word = list_any (λ keyword. is_word word keyword) keywords

-- a number for each sign
abbrev pub sign_number : Sign → ℕ
sign_number LeftParen = 0
sign_number RightParen = 1
sign_number Comma = 2
sign_number Dot = 3
sign_number Semicolon = 4
sign_number Star = 5
sign_number Equal = 6
sign_number NotEqual = 7
sign_number BangEqual = 8
sign_number Less = 9
sign_number LessEqual = 10
sign_number Greater = 11
sign_number GreaterEqual = 12
sign_number Plus = 13
sign_number Minus = 14
sign_number Slash = 15
sign_number Percent = 16

-- what one lexeme of a text stands for: a keyword in any case, a name that isn't reserved, any word, a number, a sign
pub data Item : Type 0 where
  keyword : List ℕ → Item
  name : (reserved : List (List ℕ)) → List ℕ → Item
  any : List ℕ → Item
  number : ℤ → Item
  sign : Sign → Item

abbrev pub Spells : Item → Lexeme → Type 0
Spells (keyword k) x = (w : List ℕ) × (x ≡ Word w) × IsTrue (is_word w k)
Spells (name reserved n) x = ((x ≡ Word n) × (is_among reserved n ≡ false)) ⊎ (x ≡ Quoted n)
Spells (any n) x = x ≡ Word n
Spells (number n) x = x ≡ Number n
Spells (sign s) x = x ≡ SignWord s

-- commas between them
abbrev pub after_commas : List (List Item) → List Item
after_commas = flat_map (λ items. sign Comma ∷ items)

abbrev pub with_commas : List (List Item) → List Item
with_commas [] = []
with_commas (items ∷ more) = items ++ after_commas more

-- the words spell the items, one each
abbrev pub AreSpelled : List Item → List Lexeme → Type 0
AreSpelled = AllZip Spells
