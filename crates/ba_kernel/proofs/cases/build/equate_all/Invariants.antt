use Rattle.std.proofs.Common.{map, take}
use Rattle.std.specs.List.{zip}
use Rattle.ba_kernel.specs.Effects.{rows_at, same_of}
use Rattle.ba_kernel.specs.Tidy.{Learns}
use Rattle.ba_kernel.proofs.cases.build.equate_all.Given as goal

-- the operands so far were made the same as the row's terms
abbrev pub invariant-loop-i : goal.invariant-loop-i
invariant-loop-i l = Learns (map (same_of (rows_at l.fn.new l.facts)) (take l.i (zip l.head l.row))) l.fn.new l.new
