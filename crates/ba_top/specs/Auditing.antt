-- What an audit comes to, and what it writes.
use Rattle.std.specs.Prelude.{◌≡◌, ◌⊎◌, ℕ, List, ◌∷◌, Result, Ok, Err}
use Rattle.ba_audit.specs.Audits.{IsSound, Output, TellsAudited, TellsFault, output_of}
use Rattle.ba_outside.specs.Seen.{SinkSeen}
use Rattle.ba_input.specs.declared.detail.Detail.{Detail}
use Rattle.ba_input.specs.declared.detail.Detail.TheVariants.{Done, NotAccepted, NotAudited, Fault, Write, Memory}
use Rattle.ba_input.specs.declared.input.Input.{Input}
use Rattle.ba_top.specs.Ends.{EndsLine}
use Rattle.ba_wire.specs.Audits.{finding_bytes}
use Rattle.ba_wire.specs.declared.audit.AuditFault.{AuditFault}
use Rattle.ba_wire.specs.declared.audit.Audited.{Audited}

-- ---- what an audit finds

-- these bytes, as an output of a run of the input
abbrev pub output_for : Input → List ℕ → Output
output_for input bytes = output_of input.policy (input.tables ∷ input.published) input.script bytes

-- It passes every test, and so each answer is its query's in its version and strongly compliant after
-- what its request was told before, as is each query behind a read that is let through, each pair
-- refutes, and no blocked query is covered.
pub record IsPassing (it : Output) (audited : Audited) : Type 0 where
  pub tells : TellsAudited it audited
  pub sound : IsSound it

-- the bytes pass, or this line of them is the first that fails a test, and this the first that it
-- fails
abbrev pub Finds : Input → List ℕ → Result Audited AuditFault → Type 0
Finds input bytes (Ok audited) = IsPassing (output_for input bytes) audited
Finds input bytes (Err fault) = TellsFault (output_for input bytes) fault

abbrev pub detail_of : Result Audited AuditFault → Detail
detail_of (Ok audited) = Done
detail_of (Err fault) = NotAudited fault

-- the bytes pass
pub record IsPassed (input : Input) (bytes : List ℕ) : Type 0 where
  pub audited : Audited
  pub passes : IsPassing (output_for input bytes) audited

-- they have the fault
abbrev pub IsFailed : Input → List ℕ → AuditFault → Type 0
IsFailed input bytes fault = TellsFault (output_for input bytes) fault

-- an answer that tells of an output is what the output comes to
abbrev pub IsOutcome : Input → List ℕ → Detail → Type 0
IsOutcome input bytes Done = IsPassed input bytes
IsOutcome input bytes (NotAudited fault) = IsFailed input bytes fault
IsOutcome input bytes (NotAccepted fault) = ⊥
IsOutcome input bytes (Fault fault) = ⊥
IsOutcome input bytes Write = ⊥
IsOutcome input bytes Memory = ⊥

-- ---- what an audit writes

-- What was found, whose line was written, or a front of it.
pub record IsFound (input : Input) (bytes : List ℕ) (s t : SinkSeen) (detail : Detail) : Type 0 where
  pub found : Result Audited AuditFault
  pub finds : Finds input bytes found
  pub ends : EndsLine (finding_bytes found) (detail_of found) s t detail

-- How an audit ends: what it finds is told; or memory ran out before writing, and nothing was
-- written.
abbrev pub EndsAudit : Input → List ℕ → SinkSeen → SinkSeen → Detail → Type 0
EndsAudit input bytes s t detail = IsFound input bytes s t detail ⊎ ((detail ≡ Memory) × (t ≡ s))
