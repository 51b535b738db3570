-- How a database is given a text: with its backslashes doubled, or by its bytes.
use Rattle.std.specs.Prelude.{◌≢◌, ℕ, ◌<◌, ◌+◌, ◌-◌, ◌*◌, ◌/◌, ◌%◌, Bool, false, not, ◌&&◌, ◌==◌, nat_le, nat_lt, List, [], ◌∷◌, length, slice_index, if◌then◌else◌}
use Rattle.std.specs.List.{list_all, list_any}

-- ---- backslashes

abbrev pub has_backslash : List ℕ → Bool
has_backslash text = list_any (λ b. b == 92) text

abbrev pub HasNoSlash : List ℕ → Type 0
HasNoSlash text = (k : ℕ) → k < length text → slice_index text k ≢ 92

-- each backslash doubled
unfoldable pub slashed : List ℕ → List ℕ
slashed [] = []
slashed (b ∷ bs) = if b == 92 then 92 ∷ 92 ∷ slashed bs else b ∷ slashed bs

-- without each backslash that directly follows one that is kept
unfoldable pub unslashed : Bool → List ℕ → List ℕ
unslashed behind [] = []
unslashed behind (b ∷ bs) =
    if behind && (b == 92) then unslashed false bs else b ∷ unslashed (b == 92) bs

-- ---- bytes

-- 0x20 to 0x7E, but neither a quote nor a backslash
abbrev pub is_plain_byte : ℕ → Bool
is_plain_byte b = nat_le 32 b && nat_le b 126 && not (b == 39) && not (b == 92)

abbrev pub is_plain : List ℕ → Bool
is_plain text = list_all is_plain_byte text

-- 0 to 9, A to F
abbrev pub hex_digit : ℕ → ℕ
hex_digit n = if nat_lt n 10 then 48 + n else 55 + n

-- each byte as two digits
unfoldable pub hex : List ℕ → List ℕ
hex [] = []
hex (b ∷ bs) = hex_digit (b / 16) ∷ hex_digit (b % 16) ∷ hex bs

abbrev pub digit_value : ℕ → ℕ
digit_value d = if nat_lt d 58 then d - 48 else d - 55

-- the bytes of digits, two for each
unfoldable pub unhex : List ℕ → List ℕ
unhex [] = []
unhex (d ∷ []) = []
unhex (d ∷ e ∷ ds) = (digit_value d * 16 + digit_value e) ∷ unhex ds
