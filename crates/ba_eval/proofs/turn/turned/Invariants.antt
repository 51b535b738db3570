use Rattle.std.proofs.Common.{take}
use Rattle.ba_eval.proofs.TurnLemmas.{SameSoFar}
use Rattle.ba_eval.proofs.turn.turned.Given as goal

-- the parts so far give the same rows
abbrev pub invariant-loop-part : goal.invariant-loop-part
invariant-loop-part l = SameSoFar (take l.part-index l.part-items) l.parts
