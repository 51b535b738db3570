use Rattle.ba_parts.proofs.RowLemmas.{row_is_recorded}
use Rattle.ba_parts.proofs.laws.row_is_recorded.Goals as goal

pub returns : goal.returns
returns c = row_is_recorded
