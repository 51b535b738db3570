use Rattle.ba_printed.proofs.BackLemmas.{refuted_read_back}
use Rattle.ba_printed.proofs.laws.refuted_reads_read_back.Goals as goal

pub returns : goal.returns
returns c = refuted_read_back
