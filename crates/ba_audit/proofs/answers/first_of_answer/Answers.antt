use Rattle.ba_audit.proofs.TestLemmas.{first_by, first_rows}
use Rattle.ba_audit.proofs.answers.first_of_answer.Goals as goal

pub returns-then-not-by-clause-first : goal.returns-then-not-by-clause-first
returns-then-not-by-clause-first c = first_by c.args.policy.now c.args.asker.now c.args.query.now c.args.evidence.now c.args.rows.now c.in_ok-by.by c.in_ok-by.ensures c.if-not-by.true

pub returns-then-not-same-clause-first : goal.returns-then-not-same-clause-first
returns-then-not-same-clause-first c =
    first_rows c.args.policy.now c.args.asker.now c.args.query.now c.args.evidence.now c.args.rows.now c.in_ok-by.by c.in_ok-by.ensures c.if-not-by.false c.answer_is_unique.ensures
    c.args.answer.now c.requires.answer c.same.result c.same.ensures c.if-not-same.true
