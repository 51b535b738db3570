use Rattle.ba_audit.proofs.TestLemmas.{first_unended}
use Rattle.ba_printed.specs.Reading.{printed_of}
use Rattle.ba_audit.proofs.auditing.read_line.Goals as goal

pub returns-then-not-ended-clause-fault : goal.returns-then-not-ended-clause-fault
returns-then-not-ended-clause-fault c = first_unended c.args.ended c.if-not-ended.true (printed_of c.args.policy.now c.args.bytes.now)
