use Rattle.ba_printed.proofs.BackLemmas.{plain_back}
use Rattle.ba_printed.proofs.laws.plain_lines_read_back.Goals as goal

pub returns : goal.returns
returns c = plain_back
