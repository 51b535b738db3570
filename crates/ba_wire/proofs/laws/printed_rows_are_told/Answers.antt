use Rattle.ba_wire.proofs.ToldLemmas.{rows_told}
use Rattle.ba_wire.proofs.laws.printed_rows_are_told.Goals as goal

pub returns : goal.returns
returns c = rows_told
