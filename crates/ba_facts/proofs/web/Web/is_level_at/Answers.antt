use Rattle.ba_facts.proofs.LevelLemmas.{level_at, never_level}
use Rattle.ba_facts.proofs.web.Web.is_level_at.Goals as goal

pub returns-in-Some : goal.returns-in-Some
returns-in-Some c = λ a first. level_at first c.in-Some.ensures c.are_level.ensures

pub returns-in-None : goal.returns-in-None
returns-in-None c = λ a first. never_level c.in-None.ensures
