-- An output passes an audit, or it has one first fault.
use Rattle.std.specs.Prelude.{◌≡◌}
use Rattle.ba_audit.specs.Audits.{IsAudited, Output, TellsFault}
use Rattle.ba_wire.specs.declared.audit.AuditFault.{AuditFault}

-- an output that passes has no first fault, and others have one at most
pub record HasOneEnd (it : Output) : Type 0 where
  pub no_fault : (fault : AuditFault) → IsAudited it → ¬ (TellsFault it fault)
  pub one_fault : (fault other : AuditFault) → TellsFault it fault → TellsFault it other →
      fault ≡ other

abbrev pub AuditsHaveOneEnd : Type 0
AuditsHaveOneEnd = (it : Output) → HasOneEnd it
