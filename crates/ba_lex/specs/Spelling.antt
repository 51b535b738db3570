-- How each token is spelled.
use Rattle.std.specs.Prelude.{◌≡◌, ℕ, ◌+◌, ◌-◌, ◌*◌, ◌^◌, ℤ, pos, negsuc, neg_ℤ, IsTrue, Bool, true, false, not, ◌&&◌, ◌||◌, ◌==◌, nat_lt, nat_le, List, [], ◌∷◌, ◌++◌, ◌⊎◌, if◌then◌else◌}
use Rattle.std.specs.List.{list_all}
use Rattle.ba_lex.specs.declared.token.Lexeme.{Lexeme}
use Rattle.ba_lex.specs.declared.token.Lexeme.TheVariants as lexemes
use Rattle.ba_lex.specs.declared.token.Sign.{Sign}
use Rattle.ba_lex.specs.declared.token.Sign.TheVariants.{LeftParen, RightParen, Comma, Dot, Semicolon, Star, Equal, NotEqual, BangEqual, Less, LessEqual, Greater, GreaterEqual, Plus, Minus, Slash, Percent}

-- ---- bytes

abbrev pub is_digit : ℕ → Bool
is_digit b = nat_le 48 b && nat_le b 57

-- an ASCII letter or `_`
abbrev pub is_letter : ℕ → Bool
is_letter b = (nat_le 65 b && nat_le b 90) || (nat_le 97 b && nat_le b 122) || (b == 95)

-- a byte of a word behind its first one
abbrev pub is_word_byte : ℕ → Bool
is_word_byte b = is_letter b || is_digit b

-- space, tab, CR, LF
abbrev pub is_blank : ℕ → Bool
is_blank b = (b == 32) || (b == 9) || (b == 13) || (b == 10)

-- 0x20 to 0x7E, but neither `"` nor a backquote
abbrev pub is_name_byte : ℕ → Bool
is_name_byte b = nat_le 32 b && nat_le b 126 && not (b == 34) && not (b == 96)

-- `"` or a backquote
abbrev pub is_name_quote : ℕ → Bool
is_name_quote b = (b == 34) || (b == 96)

-- ---- spellings

-- a letter, then letters, digits and `_`
abbrev pub are_word_bytes : List ℕ → Bool
are_word_bytes [] = false
are_word_bytes (b ∷ bs) = is_letter b && list_all is_word_byte bs

-- one byte or more that a quoted name may have
abbrev pub are_name_bytes : List ℕ → Bool
are_name_bytes [] = false
are_name_bytes (b ∷ bs) = is_name_byte b && list_all is_name_byte bs

-- one digit or more
abbrev pub are_digits : List ℕ → Bool
are_digits [] = false
are_digits (b ∷ bs) = is_digit b && list_all is_digit bs

-- the number that decimal digits say, after those that said n
abbrev pub value_after : ℕ → List ℕ → ℕ
value_after n [] = n
value_after n (b ∷ bs) = value_after (10 * n + (b - 48)) bs

abbrev pub digits_value : List ℕ → ℕ
digits_value ds = value_after 0 ds

-- a text with each quote doubled
abbrev pub doubled : List ℕ → List ℕ
doubled [] = []
doubled (b ∷ bs) = if b == 39 then 39 ∷ 39 ∷ doubled bs else b ∷ doubled bs

abbrev pub sign_bytes : Sign → List ℕ
sign_bytes LeftParen = 40 ∷ []
sign_bytes RightParen = 41 ∷ []
sign_bytes Comma = 44 ∷ []
sign_bytes Dot = 46 ∷ []
sign_bytes Semicolon = 59 ∷ []
sign_bytes Star = 42 ∷ []
sign_bytes Equal = 61 ∷ []
sign_bytes NotEqual = 60 ∷ 62 ∷ []
sign_bytes BangEqual = 33 ∷ 61 ∷ []
sign_bytes Less = 60 ∷ []
sign_bytes LessEqual = 60 ∷ 61 ∷ []
sign_bytes Greater = 62 ∷ []
sign_bytes GreaterEqual = 62 ∷ 61 ∷ []
sign_bytes Plus = 43 ∷ []
sign_bytes Minus = 45 ∷ []
sign_bytes Slash = 47 ∷ []
sign_bytes Percent = 37 ∷ []

-- digits, or `-` and digits, of any number
pub record SpellsNumber (spelling : List ℕ) (n : ℤ) : Type 0 where
  pub digits : List ℕ
  pub are : IsTrue (are_digits digits)
  pub sign : ((spelling ≡ digits) × (n ≡ pos (digits_value digits))) ⊎ ((spelling ≡ 45 ∷ digits) × (n ≡ neg_ℤ (pos (digits_value digits))))

-- a quote of either kind, the name, the same quote
pub record SpellsName (spelling name : List ℕ) : Type 0 where
  pub quote : ℕ
  pub is_quote : IsTrue (is_name_quote quote)
  pub are : IsTrue (are_name_bytes name)
  pub all : spelling ≡ quote ∷ (name ++ quote ∷ [])

-- the bytes are the token's
abbrev pub IsToken : List ℕ → Lexeme → Type 0
IsToken spelling (lexemes.Word word) = IsTrue (are_word_bytes word) × (spelling ≡ word)
IsToken spelling (lexemes.Quoted name) = SpellsName spelling name
IsToken spelling (lexemes.Number n) = SpellsNumber spelling n
IsToken spelling (lexemes.Text text) = spelling ≡ 39 ∷ (doubled text ++ 39 ∷ [])
IsToken spelling (lexemes.Param name) = IsTrue (are_word_bytes name) × (spelling ≡ 63 ∷ name)
IsToken spelling (lexemes.Sign sign) = spelling ≡ sign_bytes sign

-- numbers have 64 bits
abbrev pub fits : ℤ → Bool
fits (pos n) = nat_lt n (2 ^ 63)
fits (negsuc n) = nat_lt n (2 ^ 63)

-- only a number can be too large
abbrev pub is_in_range : Lexeme → Bool
is_in_range (lexemes.Number n) = fits n
is_in_range (lexemes.Word word) = true
is_in_range (lexemes.Quoted name) = true
is_in_range (lexemes.Text text) = true
is_in_range (lexemes.Param name) = true
is_in_range (lexemes.Sign sign) = true
