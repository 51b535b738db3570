use Rattle.std.proofs.Common.{◌≡◌, ◌++◌, take}
use Rattle.ba_live.proofs.contradict.joined.Given as goal

abbrev pub invariant-loop-i : goal.invariant-loop-i
invariant-loop-i l = l.all ≡ take l.i l.trace

abbrev pub invariant-loop-entry : goal.invariant-loop-entry
invariant-loop-entry l = l.all ≡ l.trace ++ take l.entry-index l.entries
