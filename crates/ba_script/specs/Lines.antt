-- The lines of a script.
use Rattle.std.specs.Prelude.{ℕ, List}
use Rattle.std.specs.Str.Lines.{lines}

-- The parts that line feeds end, of which the last may lack its line feed. A carriage return before a line feed is dropped.
abbrev pub script_lines : List ℕ → List (List ℕ)
script_lines bytes = lines bytes
