use Rattle.std.proofs.Common.{◌≡◌, drop}
use Rattle.ba_live.specs.Contradicting.{room_after}
use Rattle.ba_live.proofs.contradict.room_after_trace.Given as goal

abbrev pub invariant-loop-i : goal.invariant-loop-i
invariant-loop-i l = room_after l.left (drop l.i l.trace) ≡ room_after l.room l.trace
