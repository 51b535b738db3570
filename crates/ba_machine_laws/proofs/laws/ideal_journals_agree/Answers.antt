use Rattle.ba_machine_laws.proofs.IdealLemmas.{ideals_agree, runs_agree}
use Rattle.ba_machine_laws.proofs.laws.ideal_journals_agree.Goals as goal

pub returns-clause-ideals : goal.returns-clause-ideals
returns-clause-ideals c = ideals_agree c.answer_is_unique.ensures

pub returns-clause-runs : goal.returns-clause-runs
returns-clause-runs c = runs_agree c.answer_is_unique.ensures
