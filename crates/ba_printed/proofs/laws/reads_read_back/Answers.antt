use Rattle.ba_printed.proofs.BackLemmas.{read_back}
use Rattle.ba_printed.proofs.laws.reads_read_back.Goals as goal

pub returns : goal.returns
returns c = read_back
