use Rattle.ba_printed.proofs.BackLemmas.{refuted_back}
use Rattle.ba_printed.proofs.laws.refuted_lines_read_back.Goals as goal

pub returns : goal.returns
returns c = refuted_back
