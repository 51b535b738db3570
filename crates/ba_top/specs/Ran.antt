-- What a command may come to.
use Rattle.std.specs.Prelude.{◌≡◌, ◌⊎◌, ℕ, List, All, Option, Some, None, Ok, Err, ⊤, if◌then◌else◌}
use Rattle.ba_outside.specs.Seen.{FilesSeen, SinkSeen}
use Rattle.ba_plan.specs.declared.stop.Stop.{Stop}
use Rattle.ba_proof.specs.declared.checking.CheckFault.{CheckFault}
use Rattle.ba_proof.specs.declared.proof.Proof.{Proof}
use Rattle.ba_input.specs.Reads.{Reads}
use Rattle.ba_input.specs.Stops.{fault_of}
use Rattle.ba_input.specs.declared.detail.Detail.{Detail}
use Rattle.ba_input.specs.declared.detail.Detail.TheVariants.{Done, NotAccepted, NotAudited, Fault as Faulted, Write, Memory}
use Rattle.ba_input.specs.declared.input.Input.{Input}
use Rattle.ba_input.specs.declared.task.Task.{Task}
use Rattle.ba_input.specs.declared.task.Task.TheVariants as task
use Rattle.ba_input.specs.declared.task.Told.{Told}
use Rattle.ba_lanes.specs.Headline.{Headline}
use Rattle.ba_lanes.specs.Ideal.{IsIdeal, IsServedFully, UsesEquations}
use Rattle.ba_lanes.specs.Legal.{Legal, lacks_memory}
use Rattle.ba_lanes.specs.declared.journal.Journal.{Journal}
use Rattle.ba_top.specs.Audited.{TellsAudited, TellsWritten}
use Rattle.ba_top.specs.Auditing.{EndsAudit, IsFailed, IsPassed}
use Rattle.ba_top.specs.Checking.{EndsCheck, IsAccepted, IsRejected}
use Rattle.ba_top.specs.Ends.{EndsLine, EndsLines}
use Rattle.ba_top.specs.Text.{lines_of}
use Rattle.ba_top.specs.Told.{TellsClosed, told_lines}
use Rattle.ba_wire.specs.Printed.{fault_bytes}
use Rattle.ba_wire.specs.declared.audit.AuditFault.{AuditFault}
use Rattle.ba_wire.specs.declared.fault.Fault.{Fault}
use Rattle.ba_wire.specs.declared.fault.Fault.TheVariants as fault

-- the exit status of each fault, and of each cause
abbrev pub fault_status : Fault → ℕ
fault_status fault.Words = 2
fault_status (fault.Input file reason) = 3
fault_status (fault.Read file) = 4
fault_status (fault.Limit what limit) = 7

abbrev pub status_of : Detail → ℕ
status_of Done = 0
status_of (NotAccepted why) = 1
status_of (NotAudited why) = 1
status_of (Faulted it) = fault_status it
status_of Write = 5
status_of Memory = 6

-- how a run ends whose lines are all written: it is done, or some line of the script lacked memory
abbrev pub whole_run : Journal → Detail
whole_run journal = if lacks_memory journal then Memory else Done

-- How the writing of a journal ends: all is written; or a front is, and the sink failed or memory
-- ran out.
abbrev pub EndsRun : Input → Told → Journal → SinkSeen → SinkSeen → Detail → Type 0
EndsRun input told journal s t detail =
    EndsLines (told_lines told input journal) (whole_run journal) s t detail

-- how the writing of a fault's line ends
abbrev pub EndsFault : Fault → SinkSeen → SinkSeen → Detail → Type 0
EndsFault it s t detail = EndsLine (fault_bytes it) (Faulted it) s t detail

-- how a command ends that has a fault, or none where memory ran out: with the fault's line, or with
-- nothing
abbrev pub EndsEarly : Option Fault → SinkSeen → SinkSeen → Detail → Type 0
EndsEarly (Some it) s t detail = EndsFault it s t detail
EndsEarly None s t detail = (detail ≡ Memory) × (t ≡ s)

-- how a command ends whose reading stopped
abbrev pub EndsStop : Stop Fault → SinkSeen → SinkSeen → Detail → Type 0
EndsStop stop s t detail = EndsEarly (fault_of stop) s t detail

-- A run with a journal: one input was read, for which the journal is legal and has the headline,
-- and its text was written, or a front of it. A run that is done and told proofs told none of a
-- template's instance that isn't one, and what it told passes every test of an audit.
pub record Served (words : List (List ℕ)) (f g : FilesSeen) (s t : SinkSeen) (detail : Detail)
    (journal : Journal) : Type 0 where
  pub input : Input
  pub told : Told
  pub read : Reads words f g (Ok (task.Run input told))
  pub legal : Legal input journal
  pub headline : Headline input journal
  pub written : EndsRun input told journal s t detail
  pub closed : detail ≡ Done → TellsClosed told input journal
  pub audited : detail ≡ Done → TellsAudited told input journal

-- The same, and the journal is ideal where equations alone are used, no line publishes a table set,
-- each line found memory, and none is blocked since the budget is spent.
pub record ServedIdeally (words : List (List ℕ)) (f g : FilesSeen) (s t : SinkSeen)
    (detail : Detail) (journal : Journal) : Type 0 where
  pub served : Served words f g s t detail journal
  pub ideal : UsesEquations served.input → All IsServedFully journal.entries →
      IsIdeal served.input journal

-- what a run does with the input that was read: it serves the script, or memory runs out before
-- writing and nothing is written
abbrev pub RanInput : Input → Told → SinkSeen → SinkSeen → Detail → Option Journal → Type 0
RanInput input told s t detail (Some journal) =
    Legal input journal × Headline input journal × EndsRun input told journal s t detail
    × (detail ≡ Done → TellsClosed told input journal)
    × (detail ≡ Done → TellsWritten told input journal)
RanInput input told s t detail None = (detail ≡ Memory) × (t ≡ s)

-- how the printing of a text ends: all its lines are written, or a front of them, and the sink
-- failed or memory ran out
abbrev pub EndsPrint : List ℕ → SinkSeen → SinkSeen → Detail → Type 0
EndsPrint text s t detail = EndsLines (lines_of text) Done s t detail

-- what a command does with what was read for it; a script that is printed, a check and an audit have
-- no journal
abbrev pub RanTask : Task → SinkSeen → SinkSeen → Detail → Option Journal → Type 0
RanTask (task.Run input told) s t detail journal = RanInput input told s t detail journal
RanTask (task.Print text) s t detail (Some journal) = ⊥
RanTask (task.Print text) s t detail None = EndsPrint text s t detail
RanTask (task.Check proof) s t detail (Some journal) = ⊥
RanTask (task.Check proof) s t detail None = EndsCheck proof s t detail
RanTask (task.Audit input bytes) s t detail (Some journal) = ⊥
RanTask (task.Audit input bytes) s t detail None = EndsAudit input bytes s t detail

-- A check: one proof was read, and the line of what it comes to was written, or a front of it; or
-- memory ran out before writing.
pub record Checked (words : List (List ℕ)) (f g : FilesSeen) (s t : SinkSeen) (detail : Detail)
    : Type 0 where
  pub proof : Proof
  pub read : Reads words f g (Ok (task.Check proof))
  pub ends : EndsCheck proof s t detail

-- A script was printed, line by line, or a front of it.
pub record Printed (words : List (List ℕ)) (f g : FilesSeen) (s t : SinkSeen) (detail : Detail)
    : Type 0 where
  pub text : List ℕ
  pub read : Reads words f g (Ok (task.Print text))
  pub ends : EndsPrint text s t detail

-- An audit: one output was read, and the line of what it comes to was written, or a front of it; or
-- memory ran out before writing.
pub record Audited (words : List (List ℕ)) (f g : FilesSeen) (s t : SinkSeen) (detail : Detail)
    : Type 0 where
  pub input : Input
  pub bytes : List ℕ
  pub read : Reads words f g (Ok (task.Audit input bytes))
  pub ends : EndsAudit input bytes s t detail

-- With a journal the script was served.
-- Without one a proof was checked, a script printed, or an output audited; or the files weren't read,
-- and the line of the fault was written, or a front of it; or memory ran out before writing, and
-- nothing was written.
abbrev pub Ran : List (List ℕ) → FilesSeen → FilesSeen → SinkSeen → SinkSeen → Detail
    → Option Journal → Type 0
Ran words f g s t detail (Some journal) = Served words f g s t detail journal
Ran words f g s t detail None =
    ((stop : Stop Fault) × Reads words f g (Err stop) × EndsStop stop s t detail)
    ⊎ ((input : Input) × (told : Told) × Reads words f g (Ok (task.Run input told))
    × (detail ≡ Memory) × (t ≡ s))
    ⊎ Checked words f g s t detail
    ⊎ Printed words f g s t detail
    ⊎ Audited words f g s t detail

-- ---- proofs

-- A proof was read, of which this holds.
pub record ReadsProof (words : List (List ℕ)) (f g : FilesSeen) (P : Proof → Type 0) : Type 0 where
  pub proof : Proof
  pub read : Reads words f g (Ok (task.Check proof))
  pub holds : P proof

-- a script was to be printed
abbrev pub IsPrint : List (List ℕ) → FilesSeen → FilesSeen → Type 0
IsPrint words f g = (text : List ℕ) × Reads words f g (Ok (task.Print text))

-- An output was read, of which this holds, and what a run was given that is to have written it.
pub record ReadsOutput (words : List (List ℕ)) (f g : FilesSeen) (P : Input → List ℕ → Type 0)
    : Type 0 where
  pub input : Input
  pub bytes : List ℕ
  pub read : Reads words f g (Ok (task.Audit input bytes))
  pub holds : P input bytes

-- without a journal, and where no script was to be printed, to be done is that the proof that was
-- read is accepted, or the output
abbrev pub Accepts : List (List ℕ) → FilesSeen → FilesSeen → Detail → Option Journal → Type 0
Accepts words f g detail (Some journal) = ⊤
Accepts words f g detail None = detail ≡ Done → ReadsProof words f g IsAccepted
    ⊎ ReadsOutput words f g IsPassed
    ⊎ IsPrint words f g

-- the proof that was read has the fault
abbrev pub Rejects : List (List ℕ) → FilesSeen → FilesSeen → CheckFault → Type 0
Rejects words f g why = ReadsProof words f g (λ proof. IsRejected proof why)

-- the output that was read has the fault
abbrev pub Fails : List (List ℕ) → FilesSeen → FilesSeen → AuditFault → Type 0
Fails words f g why = ReadsOutput words f g (λ input bytes. IsFailed input bytes why)
