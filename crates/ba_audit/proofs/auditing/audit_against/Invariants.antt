use Rattle.ba_audit.specs.Keeping.{Reached, output_at}
use Rattle.ba_audit.proofs.auditing.audit_against.Given as goal

-- so many lines passed
abbrev pub invariant-loop-i : goal.invariant-loop-i
invariant-loop-i l = Reached (output_at l.against l.script l.bytes) l.i l.lines l.told
