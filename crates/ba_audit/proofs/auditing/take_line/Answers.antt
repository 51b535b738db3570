use Rattle.ba_audit.specs.Keeping.{basis_at}
use Rattle.ba_printed.specs.Reading.{printed_of}
use Rattle.ba_audit.proofs.HeardLemmas.{takes_line, unformed}
use Rattle.ba_audit.proofs.auditing.take_line.Goals as goal

pub returns-in-Ok-clause-ok : goal.returns-in-Ok-clause-ok
returns-in-Ok-clause-ok c =
    takes_line (basis_at c.args.against.now) c.args.ended c.in-Ok.ensures.ended c.args.number c.args.entry.now (printed_of c.args.against.now.policy.now c.args.bytes.now) c.in-Ok.line c.deref.result.now
    c.in-Ok.ensures.line c.deref.ensures c.args.told.now c.take_read.new.told c.take_read.result c.take_read.ensures.ok

pub returns-in-Err-clause-fault : goal.returns-in-Err-clause-fault
returns-in-Err-clause-fault c =
    unformed (basis_at c.args.against.now) c.args.ended c.args.number c.args.told.now c.args.entry.now (printed_of c.args.against.now.policy.now c.args.bytes.now) c.in-Err.failure c.in-Err.ensures.fault
