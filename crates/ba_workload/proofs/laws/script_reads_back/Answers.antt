use Rattle.ba_workload.proofs.EntryLemmas.{reads_back}
use Rattle.ba_workload.proofs.laws.script_reads_back.Goals as goal

pub returns : goal.returns
returns c = reads_back
