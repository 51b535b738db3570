use Rattle.std.proofs.Common.{map, take}
use Rattle.std.specs.List.{zip}
use Rattle.ba_kernel.specs.Effects.{same_at}
use Rattle.ba_kernel.specs.Tidy.{Learns}
use Rattle.ba_kernel.proofs.cases.equal.equate_columns.Given as goal

-- the columns so far were made the same
abbrev pub invariant-loop-i : goal.invariant-loop-i
invariant-loop-i l = Learns (map (same_at l.left l.right) (take l.i (zip l.columns l.others))) l.fn.new l.new
