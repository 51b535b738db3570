use Rattle.ba_workload_laws.proofs.ReadingLemmas.{workload_reads}
use Rattle.ba_workload_laws.proofs.laws.workload_is_read.Goals as goal

pub returns : goal.returns
returns c = workload_reads
