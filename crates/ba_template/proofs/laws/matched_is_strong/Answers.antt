use Rattle.ba_template.proofs.MatchLemmas.{matched_is_strong}
use Rattle.ba_template.proofs.laws.matched_is_strong.Goals as goal

pub returns : goal.returns
returns c = matched_is_strong c.strong_is_kept.ensures
