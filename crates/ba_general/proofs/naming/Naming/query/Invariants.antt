use Rattle.std.proofs.Common.{take}
use Rattle.std.specs.Prelude.{All}
use Rattle.ba_kernel.specs.Problems.{part_at}
use Rattle.ba_general.specs.Patterns.{NamesAll, PartRepeats, printed_part}
use Rattle.ba_general.proofs.naming.Naming.query.Given as goal

abbrev pub invariant-loop-part : goal.invariant-loop-part
invariant-loop-part l =
    record { names : NamesAll part_at printed_part l.fn.self (take l.part-index l.part-items) l.self l.parts; repeats : All PartRepeats l.parts }
