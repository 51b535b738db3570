use Rattle.std.proofs.Common.{◌≡◌, length, drop}
use Rattle.csv.specs.Records.{fields_of}
use Rattle.ba_tables.specs.TableFile.{is_header}
use Rattle.ba_tables.proofs.line.is_header.Given as goal

abbrev pub invariant-loop-i : goal.invariant-loop-i
invariant-loop-i l = (length (fields_of l.line) ≡ length l.columns)
    × (is_header (drop l.i l.columns) (drop l.i (fields_of l.line)) ≡ is_header l.columns (fields_of l.line))
