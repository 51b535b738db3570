use Rattle.ba_top.proofs.AuditLemmas.{audit_input, fails, few_entries, passes}
use Rattle.ba_top.proofs.auditing.finding.Goals as goal

pub audit-requires-clause-few : goal.audit-requires-clause-few
audit-requires-clause-few c = few_entries c.args.input.now c.requires

pub audit-requires-clause-input : goal.audit-requires-clause-input
audit-requires-clause-input c = audit_input c.args.input.now c.in_ok-sets.sets c.requires c.in_ok-sets.ensures

pub returns-in-Ok : goal.returns-in-Ok
returns-in-Ok c = passes c.args.input.now c.in_ok-sets.sets c.as_slice.result.now c.args.bytes.now c.in-Ok.audited c.in_ok-sets.ensures c.as_slice.ensures c.in-Ok.ensures.audited c.in-Ok.ensures.sound

pub returns-in-Err-Fault : goal.returns-in-Err-Fault
returns-in-Err-Fault c =
    let it = c.in-Err-Fault in
    fails c.args.input.now c.in_ok-sets.sets c.as_slice.result.now c.args.bytes.now it.field-0 it.fault it.field-0-is c.in_ok-sets.ensures c.as_slice.ensures it.ensures.fault
