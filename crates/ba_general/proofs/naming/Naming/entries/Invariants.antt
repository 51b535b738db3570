use Rattle.std.proofs.Common.{take}
use Rattle.std.specs.Prelude.{All}
use Rattle.ba_general.specs.Patterns.{EntryRepeats, NamesEntries}
use Rattle.ba_general.proofs.naming.Naming.entries.Given as goal

abbrev pub invariant-loop-number : goal.invariant-loop-number
invariant-loop-number l =
    record { names : NamesEntries l.fn.self l.problem.entries (take l.number-index l.numbers) l.self l.entries; repeats : All EntryRepeats l.entries }
