use Rattle.ba_printed.specs.Reading.{printed_of}
use Rattle.ba_audit.proofs.HeardLemmas.{last_ok, unformed_last}
use Rattle.ba_audit.proofs.auditing.test_last.Goals as goal

pub returns-in-Ok-clause-ok : goal.returns-in-Ok-clause-ok
returns-in-Ok-clause-ok c =
    last_ok c.args.ended c.in-Ok.ensures.ended c.args.told.now.summary (printed_of c.args.against.now.policy.now c.args.bytes.now) c.in-Ok.line c.deref.result.now c.in-Ok.ensures.line c.deref.ensures
    c.test_summary.result c.test_summary.ensures.ok c.test_summary.ensures.summary

pub returns-in-Err-clause-fault : goal.returns-in-Err-clause-fault
returns-in-Err-clause-fault c =
    unformed_last c.args.ended c.args.told.now.summary (printed_of c.args.against.now.policy.now c.args.bytes.now) c.in-Err.failure c.in-Err.ensures.fault
