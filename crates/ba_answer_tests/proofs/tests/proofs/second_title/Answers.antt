use Rattle.ba_answer_tests.proofs.TraceLemmas.{recorded}
use Rattle.ba_answer_tests.proofs.tests.proofs.second_title.Goals as goal

pub proof-requires-clause-trace : goal.proof-requires-clause-trace
proof-requires-clause-trace g c = recorded c.args.policy.now c.deref-3.result.now c.two.result c.expect-trace.result c.deref-3.ensures c.two.ensures c.expect-trace.ensures
