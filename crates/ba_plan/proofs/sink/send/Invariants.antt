use Rattle.std.proofs.Common.{length, Result}
use Rattle.ba_outside.specs.Seen.{SinkSeen}
use Rattle.ba_outside.specs.declared.sink.WriteFail.{WriteFail}
use Rattle.ba_plan.proofs.SendingLines.{Goes}
use Rattle.ba_plan.proofs.sink.send.Given as goal

-- whatever becomes of the rest completes the line
abbrev pub invariant-loop-rest : goal.invariant-loop-rest
invariant-loop-rest g l = let seen = g.S.Sink.seen in (t : SinkSeen) (r : Result (Unit {0}) WriteFail) → Goes l.rest (seen l.sink) t r → Goes l.line (seen l.fn.sink) t r

abbrev pub decreases-loop-rest : goal.decreases-loop-rest
decreases-loop-rest g l = length l.rest
