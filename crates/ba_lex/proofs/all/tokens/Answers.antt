use Rattle.ba_lex.proofs.SpanLemmas.{read_spans}
use Rattle.ba_lex.proofs.all.tokens.Goals as goal

pub returns-clause-spans : goal.returns-clause-spans
returns-clause-spans c = read_spans c.args.text.now c.tokens_from.result c.tokens_from.ensures
