use Rattle.ba_sql_query.proofs.ReadingLemmas.{one_query, text_complete, text_sound, words_complete, words_sound}
use Rattle.ba_sql_query.proofs.laws.query_reading.Goals as goal

pub returns-clause-words : goal.returns-clause-words
returns-clause-words c schema params words q = (words_sound schema params words q, words_complete schema params words q)

pub returns-clause-text : goal.returns-clause-text
returns-clause-text c schema params text q = (text_sound schema params text q, text_complete schema params text q)

pub returns-clause-unique : goal.returns-clause-unique
returns-clause-unique c schema params text p q a b = one_query schema params text p q a b
