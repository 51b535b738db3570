use Rattle.ba_parts.proofs.RowLemmas.{given_can_be}
use Rattle.ba_parts.proofs.laws.given_can_be.Goals as goal

pub returns : goal.returns
returns c = given_can_be
