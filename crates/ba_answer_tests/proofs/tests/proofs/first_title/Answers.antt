use Rattle.ba_answer_tests.proofs.TraceLemmas.{recorded}
use Rattle.ba_answer_tests.proofs.tests.proofs.first_title.Goals as goal

pub proof-requires-clause-trace : goal.proof-requires-clause-trace
proof-requires-clause-trace g c = recorded c.args.policy.now c.deref-3.result.now c.one.result c.expect-trace.result c.deref-3.ensures c.one.ensures c.expect-trace.ensures
