use Rattle.ba_tables.proofs.SpellLemmas.{reads_as_spelled_is, rows_are_unique}
use Rattle.ba_tables.proofs.laws.reads_as_spelled.Goals as goal

pub returns-clause-reading : goal.returns-clause-reading
returns-clause-reading c = reads_as_spelled_is

pub returns-clause-unique : goal.returns-clause-unique
returns-clause-unique c = rows_are_unique
