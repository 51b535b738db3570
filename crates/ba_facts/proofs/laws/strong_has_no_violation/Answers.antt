use Rattle.ba_facts.proofs.StrongLemmas.{strong_has_no_violation}
use Rattle.ba_facts.proofs.laws.strong_has_no_violation.Goals as goal

pub returns : goal.returns
returns c = strong_has_no_violation
