use Rattle.ba_sql_query.specs.Reads.{ReadsQuery}
use Rattle.ba_sql_query.specs.Texts.{query_of}
use Rattle.ba_sql_query.proofs.ReadingLemmas.{reads, text_sound}
use Rattle.ba_sql_query.proofs.read.read_query.Goals as goal

pub returns-clause-reads : goal.returns-clause-reads
returns-clause-reads c =
    reads c.query_of.result (query_of c.args.schema.now c.args.params.now c.args.text.now) (ReadsQuery c.args.schema.now c.args.params.now c.args.text.now) c.query_of.ensures.exact (text_sound c.args.schema.now c.args.params.now c.args.text.now)
