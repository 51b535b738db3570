use Rattle.std.proofs.Common.{◌∙◌}
use Rattle.ba_sql_syntax.proofs.TerminalLemmas.{unsupported_so}
use Rattle.ba_sql_syntax.proofs.word.is_unsupported.Goals as goal

pub returns : goal.returns
returns c = c.is_among.ensures ∙ unsupported_so c.args.word.now c.first_letter.result _ c.first_letter.ensures c.unsupported_by.ensures
