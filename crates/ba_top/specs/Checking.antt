-- What a check comes to, and what it writes.
use Rattle.std.specs.Prelude.{◌≡◌, ◌⊎◌, ℕ, length, Option, Some, None}
use Rattle.ba_kernel.specs.Replays.{Closes}
use Rattle.ba_outside.specs.Seen.{SinkSeen}
use Rattle.ba_proof.specs.Checked.{HasFault, IsStrongQuestion}
use Rattle.ba_proof.specs.declared.checking.CheckFault.{CheckFault}
use Rattle.ba_proof.specs.declared.checking.CheckFault.TheVariants as check
use Rattle.ba_proof.specs.declared.proof.Proof.{Proof}
use Rattle.ba_input.specs.declared.detail.Detail.{Detail}
use Rattle.ba_input.specs.declared.detail.Detail.TheVariants.{Done, NotAccepted, NotAudited, Fault, Write, Memory}
use Rattle.ba_top.specs.Ends.{EndsLine}
use Rattle.ba_wire.specs.Verdicts.{verdict_bytes}
use Rattle.ba_wire.specs.declared.verdict.Verdict.{Verdict}
use Rattle.ba_wire.specs.declared.verdict.Verdict.TheVariants.{Accepted, NotShown, StillOpen}

-- ---- what a check finds

-- All steps are accepted, one after another, and leave no branch open; and so the proof's question
-- is strongly compliant under its context and after its rows.
pub record IsAccepted (proof : Proof) : Type 0 where
  pub closes : Closes proof.problem proof.steps
  pub strong : IsStrongQuestion proof.problem

-- The step of the fault is the first that isn't accepted, or all are and so many branches are open;
-- and so the steps are no proof.
pub record IsRejected (proof : Proof) (fault : CheckFault) : Type 0 where
  pub has : HasFault proof.problem proof.steps fault
  pub unclosed : ¬ (Closes proof.problem proof.steps)

-- the proof is accepted, or has the fault
abbrev pub IsFinding : Proof → Option CheckFault → Type 0
IsFinding proof None = IsAccepted proof
IsFinding proof (Some fault) = IsRejected proof fault

abbrev pub detail_found : Option CheckFault → Detail
detail_found None = Done
detail_found (Some fault) = NotAccepted fault

-- an answer that tells of a proof is what the proof comes to
abbrev pub IsVerdict : Proof → Detail → Type 0
IsVerdict proof Done = IsAccepted proof
IsVerdict proof (NotAccepted fault) = IsRejected proof fault
IsVerdict proof (NotAudited fault) = ⊥
IsVerdict proof (Fault fault) = ⊥
IsVerdict proof Write = ⊥
IsVerdict proof Memory = ⊥

-- ---- what a check writes

abbrev pub fault_line : CheckFault → Verdict
fault_line (check.NotShown step fault) = NotShown step fault
fault_line (check.StillOpen branches) = StillOpen branches

-- the line of a finding, of a proof of so many steps
abbrev pub line_found : ℕ → Option CheckFault → Verdict
line_found steps None = Accepted steps
line_found steps (Some fault) = fault_line fault

-- The finding, whose line was written, or a front of it.
pub record IsTold (proof : Proof) (s t : SinkSeen) (detail : Detail) : Type 0 where
  pub found : Option CheckFault
  pub is : IsFinding proof found
  pub ends :
      EndsLine (verdict_bytes (line_found (length proof.steps) found)) (detail_found found) s t detail

-- How a check ends: its finding is told; or memory ran out before writing, and nothing was written.
abbrev pub EndsCheck : Proof → SinkSeen → SinkSeen → Detail → Type 0
EndsCheck proof s t detail = IsTold proof s t detail ⊎ ((detail ≡ Memory) × (t ≡ s))
