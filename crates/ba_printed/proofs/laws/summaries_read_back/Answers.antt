use Rattle.ba_printed.proofs.BackLemmas.{summary_back}
use Rattle.ba_printed.proofs.laws.summaries_read_back.Goals as goal

pub returns : goal.returns
returns c = summary_back
