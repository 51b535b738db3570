use Rattle.std.proofs.Common.{length, Result}
use Rattle.ba_outside.specs.Seen.{SinkSeen}
use Rattle.ba_outside.specs.declared.sink.WriteFail.{WriteFail}
use Rattle.ba_plan.specs.Sent.{SentLines}
use Rattle.ba_top.specs.Text.{lines_of}
use Rattle.ba_top.proofs.print.print_text.Given as goal

-- whatever becomes of the lines of the rest completes the text
abbrev pub invariant-loop-rest : goal.invariant-loop-rest
invariant-loop-rest g l = let seen = g.S.Sink.seen in (t : SinkSeen) (r : Result (Unit {0}) WriteFail) → SentLines (lines_of l.rest) (seen l.sink) t r → SentLines (lines_of l.text) (seen l.fn.sink) t r

abbrev pub decreases-loop-rest : goal.decreases-loop-rest
decreases-loop-rest g l = length l.rest
