use Rattle.std.proofs.Common.{drop, map, Result}
use Rattle.ba_outside.specs.Seen.{SinkSeen}
use Rattle.ba_outside.specs.declared.sink.WriteFail.{WriteFail}
use Rattle.ba_plan.specs.Sent.{SentLines}
use Rattle.ba_store.specs.Written.{line_of}
use Rattle.ba_top.proofs.print.print_each.Given as goal

-- whatever becomes of the lines that are left completes them all
abbrev pub invariant-loop-template : goal.invariant-loop-template
invariant-loop-template g l = let seen = g.S.Sink.seen in
    (t : SinkSeen) (r : Result (Unit {0}) WriteFail) → SentLines (map line_of (drop l.template-index l.templates)) (seen l.sink) t r → SentLines (map line_of l.templates) (seen l.fn.sink) t r
