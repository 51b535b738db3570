use Rattle.std.proofs.Common.{◌≡◌, drop}
use Rattle.ba_live.specs.Contradicting.{room_after}
use Rattle.ba_live.proofs.contradict.room_after.Given as goal

abbrev pub invariant-loop-entry : goal.invariant-loop-entry
invariant-loop-entry l = room_after l.left (drop l.entry-index l.entries) ≡ room_after l.room l.entries
