use Rattle.ba_workload.proofs.FileLemmas.{hold_theirs}
use Rattle.ba_workload.proofs.laws.files_hold_their_bytes.Goals as goal

pub returns : goal.returns
returns c = hold_theirs
