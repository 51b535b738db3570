use Rattle.std.proofs.Common.{◌≡◌, ◌++◌, take, codes, string_bytes}
use Rattle.std.specs.List.{flat_map}
use Rattle.ba_workload.specs.Tables.{line_of}
use Rattle.ba_workload.proofs.lines.table_text.Given as goal

abbrev pub invariant-loop-row : goal.invariant-loop-row
invariant-loop-row l = string_bytes l.text ≡ (l.header ++ codes "\n") ++ flat_map line_of (take l.row-index l.rows)
