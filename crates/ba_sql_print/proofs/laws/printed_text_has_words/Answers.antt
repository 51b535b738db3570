use Rattle.ba_sql_print.proofs.WritableLemmas.{printed_words}
use Rattle.ba_sql_print.proofs.laws.printed_text_has_words.Goals as goal

pub returns : goal.returns
returns c = printed_words
