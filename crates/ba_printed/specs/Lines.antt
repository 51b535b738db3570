-- The lines of an output.
use Rattle.std.specs.Prelude.{ℕ, List}
use Rattle.ba_script.specs.Lines.{script_lines}

-- as in scripts: the parts that line feeds end, of which the last may lack its line feed; a carriage
-- return before a line feed is dropped, which is a blank in JSON
abbrev pub printed_lines : List ℕ → List (List ℕ)
printed_lines bytes = script_lines bytes
