use Rattle.ba_answer_tests.proofs.TraceLemmas.{record_of}
use Rattle.ba_answer_tests.proofs.tests.proofs.entry.Goals as goal

pub returns : goal.returns
returns c =
    record_of c.answers_are_records.ensures c.args.policy.now c.args.context.now c.args.tables.now.schema c.rows.result.now c.args.query.now c.deref.result.now
    c.in_ok-query.query c.in_ok-found.found c.in_ok-rows.rows c.requires.schema c.rows.ensures.conform c.requires.context c.requires.query c.deref.ensures
    c.in_ok-query.ensures c.in_ok-found.ensures c.in_ok-rows.ensures
