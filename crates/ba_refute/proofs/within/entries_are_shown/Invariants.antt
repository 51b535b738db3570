use Rattle.std.proofs.Common.{All, take}
use Rattle.ba_refute.specs.Counterexamples.{EntryIsShown}
use Rattle.ba_refute.proofs.within.entries_are_shown.Given as goal

abbrev pub invariant-loop-i : goal.invariant-loop-i
invariant-loop-i l = All (EntryIsShown l.ctx l.one) (take l.i l.trace)
