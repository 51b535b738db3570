use Rattle.ba_general.proofs.OnePatternLemmas.{pattern_one}
use Rattle.ba_general.proofs.laws.pattern_is_one.Goals as goal

pub returns : goal.returns
returns c = pattern_one
