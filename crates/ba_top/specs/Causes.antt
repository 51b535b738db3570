-- When each answer comes.
use Rattle.std.specs.Prelude.{◌≡◌, Option, Some, None, Result, Ok, Err, ⊤}
use Rattle.ba_input.specs.Stops.{fault_of}
use Rattle.ba_input.specs.declared.detail.Detail.{Detail}
use Rattle.ba_input.specs.declared.detail.Detail.TheVariants.{Done, NotAccepted, NotAudited, Fault as Faulted, Write, Memory}
use Rattle.ba_input.specs.declared.task.Task.{Task}
use Rattle.ba_input.specs.declared.task.Task.TheVariants as task
use Rattle.ba_plan.specs.declared.stop.Stop.{Stop}
use Rattle.ba_top.specs.Auditing.{IsOutcome}
use Rattle.ba_top.specs.Checking.{IsVerdict}
use Rattle.ba_wire.specs.declared.fault.Fault.{Fault}
use Rattle.ba_wire.specs.declared.fault.Fault.TheVariants.{Words, Input, Read, Limit}

-- the fault, or want of memory where there is none
abbrev pub faulted : Option Fault → Detail
faulted (Some fault) = Faulted fault
faulted None = Memory

-- What a command comes to, by what its reading comes to, where no sink fails and memory suffices: a
-- run is done, and so is the printing of a script; a check is done where its proof is accepted, and
-- else has the proof's fault, and so an audit of its output; a reading that stopped has the fault that
-- is told of it.
abbrev pub ComesTo : Result Task (Stop Fault) → Detail → Type 0
ComesTo (Ok (task.Run input told)) detail = detail ≡ Done
ComesTo (Ok (task.Print text)) detail = detail ≡ Done
ComesTo (Ok (task.Check proof)) detail = IsVerdict proof detail
ComesTo (Ok (task.Audit input bytes)) detail = IsOutcome input bytes detail
ComesTo (Err stop) detail = detail ≡ faulted (fault_of stop)

-- a reading that may be comes to this
pub record SomeComesTo (MayBe : Result Task (Stop Fault) → Type 0) (detail : Detail) : Type 0 where
  pub reading : Result Task (Stop Fault)
  pub may_be : MayBe reading
  pub comes : ComesTo reading detail

-- an answer that tells of the words or of the files' contents is one that a reading comes to
abbrev pub Tells : Detail → (Result Task (Stop Fault) → Type 0) → Type 0
Tells Done MayBe = SomeComesTo MayBe Done
Tells (NotAccepted why) MayBe = SomeComesTo MayBe (NotAccepted why)
Tells (NotAudited why) MayBe = SomeComesTo MayBe (NotAudited why)
Tells (Faulted Words) MayBe = SomeComesTo MayBe (Faulted Words)
Tells (Faulted (Input file reason)) MayBe = SomeComesTo MayBe (Faulted (Input file reason))
Tells (Faulted (Limit what limit)) MayBe = SomeComesTo MayBe (Faulted (Limit what limit))
Tells (Faulted (Read file)) MayBe = ⊤
Tells Write MayBe = ⊤
Tells Memory MayBe = ⊤
