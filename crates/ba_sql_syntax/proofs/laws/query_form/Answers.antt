use Rattle.ba_sql_syntax.proofs.TextLemmas.{one_text, refused_complete, refused_sound, unsupported_complete, unsupported_sound, written_complete, written_sound}
use Rattle.ba_sql_syntax.proofs.laws.query_form.Goals as goal

pub returns-clause-reads : goal.returns-clause-reads
returns-clause-reads c words text = (written_sound words text, written_complete words text)

pub returns-clause-unique : goal.returns-clause-unique
returns-clause-unique c words text other h k = one_text words text other h k

pub returns-clause-first : goal.returns-clause-first
returns-clause-first c words called = (unsupported_sound words called, unsupported_complete words called)

pub returns-clause-others : goal.returns-clause-others
returns-clause-others c words = (refused_sound words, refused_complete words)
