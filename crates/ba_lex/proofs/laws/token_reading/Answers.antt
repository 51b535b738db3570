use Rattle.ba_lex.proofs.LawLemmas.{file_reading, text_reading, tokens_are_unique}
use Rattle.ba_lex.proofs.laws.token_reading.Goals as goal

pub returns-clause-text : goal.returns-clause-text
returns-clause-text c = text_reading

pub returns-clause-file : goal.returns-clause-file
returns-clause-file c = file_reading

pub returns-clause-unique : goal.returns-clause-unique
returns-clause-unique c = tokens_are_unique
