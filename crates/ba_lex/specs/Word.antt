-- A word as a keyword.
use Rattle.std.specs.Prelude.{ℕ, Bool, List, map}
use Rattle.std.specs.Char.{to_ascii_lowercase}
use Rattle.std.specs.Str.{bytes_eq}

-- the same up to the case of ASCII letters
unfoldable pub is_word : List ℕ → List ℕ → Bool
is_word word keyword = bytes_eq (map to_ascii_lowercase word) (map to_ascii_lowercase keyword)
