use Rattle.ba_sql_query.proofs.FaultLemmas.{first_fault}
use Rattle.ba_sql_query.proofs.laws.first_fault.Goals as goal

pub returns : goal.returns
returns c schema params text f e = first_fault schema params text f e
