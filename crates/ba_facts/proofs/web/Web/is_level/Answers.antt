use Rattle.ba_facts.specs.Known.{seen}
use Rattle.ba_facts.proofs.LevelLemmas.{never_placed}
use Rattle.ba_facts.proofs.web.Web.is_level.Goals as goal

pub returns-in-Some : goal.returns-in-Some
returns-in-Some c = c.is_level_at.ensures (seen c.args.a) c.in-Some.ensures

pub returns-in-None : goal.returns-in-None
returns-in-None c = never_placed c.in-None.ensures
