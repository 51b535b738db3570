-- Keywords by the letters that they begin with.
use Rattle.std.specs.Prelude.{ℕ, ◌==◌, List, [], ◌∷◌, map}
use Rattle.std.specs.Char.{to_ascii_lowercase}
use Rattle.std.specs.List.{filter}
use Rattle.ba_sql_syntax.specs.Terminals.{key_text}
use Rattle.ba_sql_syntax.specs.declared.word.Key.{Key}

abbrev pub first_of : List ℕ → ℕ
first_of [] = 0
first_of (b ∷ bs) = b

-- in lower case; 0 if there is none
abbrev pub first_letter : List ℕ → ℕ
first_letter word = first_of (map to_ascii_lowercase word)

-- those that begin with a letter, in order
abbrev pub words_by : ℕ → List (List ℕ) → List (List ℕ)
words_by letter = filter (λ word. first_letter word == letter)

abbrev pub keys_by : ℕ → List Key → List Key
keys_by letter = filter (λ k. first_letter (key_text k) == letter)
