use Rattle.ba_general.proofs.TooWideLemmas.{too_wide_none}
use Rattle.ba_general.proofs.laws.too_wide_is_none.Goals as goal

pub returns : goal.returns
returns c = too_wide_none
