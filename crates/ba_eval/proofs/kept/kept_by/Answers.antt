use Rattle.ba_eval.proofs.KeptLemmas.{kept_unbounded}
use Rattle.ba_eval.proofs.kept.kept_by.Goals as goal

pub returns : goal.returns
returns c = kept_unbounded _ _ _ _ _ c.longest_front.result c.if-search.false c.requires.ties c.longest_front.ensures
