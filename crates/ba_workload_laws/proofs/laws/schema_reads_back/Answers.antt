use Rattle.ba_workload_laws.proofs.SchemaLemmas.{schema_reads}
use Rattle.ba_workload_laws.proofs.laws.schema_reads_back.Goals as goal

pub returns : goal.returns
returns c = schema_reads
