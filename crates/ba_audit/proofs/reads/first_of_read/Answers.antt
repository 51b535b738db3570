use Rattle.ba_audit.proofs.ReadLemmas.{first_key_by}
use Rattle.ba_audit.proofs.reads.first_of_read.Goals as goal

pub returns-then-not-by : goal.returns-then-not-by
returns-then-not-by c = first_key_by c.args.policy.now c.args.asker.now c.args.queries.now c.args.evidence.now c.in_ok-by.by c.in_ok-by.ensures c.if-not-by.true
