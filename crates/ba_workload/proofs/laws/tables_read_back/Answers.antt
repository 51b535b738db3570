use Rattle.ba_workload.proofs.TableLemmas.{tables_read}
use Rattle.ba_workload.proofs.laws.tables_read_back.Goals as goal

pub returns : goal.returns
returns c = tables_read
