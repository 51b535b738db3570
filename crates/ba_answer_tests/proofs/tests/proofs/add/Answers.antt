use Rattle.ba_answer_tests.proofs.TraceLemmas.{grown}
use Rattle.ba_kernel.specs.Asked.{RecordFits}
use Rattle.ba_answer_tests.proofs.tests.proofs.add.Goals as goal

pub returns : goal.returns
returns c =
    grown (RecordFits c.args.policy.now) c.args.trace.now c.push.new.self c.in_ok-entry.entry c.push.result c.push.ensures.ok c.requires.trace c.in_ok-entry.ensures
