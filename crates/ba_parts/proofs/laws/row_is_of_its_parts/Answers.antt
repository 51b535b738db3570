use Rattle.ba_parts.proofs.RowLemmas.{row_is_of_its_parts}
use Rattle.ba_parts.proofs.laws.row_is_of_its_parts.Goals as goal

pub returns : goal.returns
returns c = row_is_of_its_parts
