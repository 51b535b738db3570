use Rattle.std.proofs.Common.{map, take}
use Rattle.ba_kernel.specs.Effects.{lesson_of, rows_at}
use Rattle.ba_kernel.specs.Tidy.{Learns}
use Rattle.ba_kernel.proofs.cases.build.assume_all.Given as goal

-- the atoms so far were learned
abbrev pub invariant-loop-atom : goal.invariant-loop-atom
invariant-loop-atom l = Learns (map (lesson_of (rows_at l.fn.new l.facts)) (take l.atom-index l.conds)) l.fn.new l.new
