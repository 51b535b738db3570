use Rattle.ba_audit.proofs.TestLemmas.{first_covered}
use Rattle.ba_audit.proofs.answers.first_of_block.Goals as goal

pub returns-then-covered : goal.returns-then-covered
returns-then-covered c = first_covered c.args.policy.now c.args.asker.now c.args.query.now c.args.blocked.now c.in_ok-covered.covered c.in_ok-covered.ensures c.if-covered.true
