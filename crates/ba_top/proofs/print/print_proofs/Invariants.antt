use Rattle.std.proofs.Common.{◌++◌, ◌∷◌, [], drop, take, Result}
use Rattle.ba_input.specs.declared.task.Told.TheVariants.{Proofs}
use Rattle.ba_outside.specs.Seen.{SinkSeen}
use Rattle.ba_outside.specs.declared.sink.WriteFail.{WriteFail}
use Rattle.ba_plan.specs.Sent.{SentLines}
use Rattle.ba_top.specs.Audited.{AllWritten}
use Rattle.ba_top.specs.Evidence.{AllClose, AreAfter}
use Rattle.ba_top.specs.Told.{told_after, told_end, told_lines}
use Rattle.ba_top.proofs.print.print_proofs.Given as goal

-- what is known of requests; that whatever becomes of the entries that are left and the summary completes what is told;
-- and that where the steps of those that are left close their problems all do, and where their lines are written all are
abbrev pub invariant-loop-place : goal.invariant-loop-place
invariant-loop-place g l = let seen = g.S.Sink.seen in
    AreAfter l.input (take l.place l.journal.entries) l.requests
    × ((t : SinkSeen) (r : Result (Unit {0}) WriteFail) → SentLines (told_after Proofs l.input (take l.place l.journal.entries) (drop l.place l.journal.entries) ++ told_end Proofs l.journal) (seen l.sink) t r → SentLines (told_lines Proofs l.input l.journal) (seen l.fn.sink) t r)
    × (AllClose l.input (take l.place l.journal.entries) (drop l.place l.journal.entries) → AllClose l.input [] l.journal.entries)
    × (AllWritten l.input (take l.place l.journal.entries) (drop l.place l.journal.entries) → AllWritten l.input [] l.journal.entries)
