use Rattle.ba_parts.proofs.UnionLemmas.{strong_has_one_answer}
use Rattle.ba_parts.proofs.laws.strong_has_one_answer.Goals as goal

pub returns : goal.returns
returns c = strong_has_one_answer
