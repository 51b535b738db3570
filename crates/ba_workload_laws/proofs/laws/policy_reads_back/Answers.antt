use Rattle.ba_workload_laws.proofs.PolicyLemmas.{policy_reads}
use Rattle.ba_workload_laws.proofs.laws.policy_reads_back.Goals as goal

pub returns : goal.returns
returns c = policy_reads
