-- The limit of a line.
use Rattle.std.specs.Prelude.{ℕ}

-- bytes of a line, its line feed apart; one more is too many
abbrev pub most_line_bytes : ℕ
most_line_bytes = 1048576
