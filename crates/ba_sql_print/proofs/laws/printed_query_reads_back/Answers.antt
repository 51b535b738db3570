use Rattle.ba_sql_print.specs.Printed.{query_text}
use Rattle.ba_sql_print.proofs.ReadsLemmas.{printed_reads}
use Rattle.ba_sql_print.proofs.laws.printed_query_reads_back.Goals as goal

pub returns : goal.returns
returns c = record { same = λ s p q h. (c.query_reading.ensures.text s p (query_text s p q) q).1 (printed_reads s p q h); reads = printed_reads }
