use Rattle.ba_sql_syntax.proofs.TextLemmas.{written_trees}
use Rattle.ba_sql_syntax.proofs.text.read_written.Goals as goal

pub returns-clause-trees : goal.returns-clause-trees
returns-clause-trees c = written_trees c.args.words.now c.scanned.result c.scanned.ensures
