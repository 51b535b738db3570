use Rattle.ba_kernel.specs.Asked.{QuestionFits}
use Rattle.ba_answer_tests.proofs.tests.proofs.question_fits.Goals as goal

pub returns : goal.returns
returns c = record {
  tables = c.requires.tables;
  rules = c.requires.rules.fit;
  policy_fits = c.requires.policy;
  context = c.requires.context;
  trace_fits = c.requires.trace;
  asked = c.requires.query;
}
