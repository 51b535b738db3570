use Rattle.std.proofs.Common.{◌++◌, ◌∷◌, [], drop, take, Result}
use Rattle.ba_outside.specs.Seen.{SinkSeen}
use Rattle.ba_outside.specs.declared.sink.WriteFail.{WriteFail}
use Rattle.ba_plan.specs.Sent.{SentLines}
use Rattle.ba_input.specs.declared.task.Told.TheVariants.{Lines}
use Rattle.ba_top.specs.Told.{told_after, told_end, told_lines}
use Rattle.ba_top.proofs.print.print_lines.Given as goal

-- whatever becomes of the entries that are left and the summary completes what is told
abbrev pub invariant-loop-place : goal.invariant-loop-place
invariant-loop-place g l = let seen = g.S.Sink.seen in
    (t : SinkSeen) (r : Result (Unit {0}) WriteFail) → SentLines (told_after Lines l.input (take l.place l.journal.entries) (drop l.place l.journal.entries) ++ told_end Lines l.journal) (seen l.sink) t r → SentLines (told_lines Lines l.input l.journal) (seen l.fn.sink) t r
