use Rattle.ba_facts.proofs.AddLemmas.{new_whole}
use Rattle.ba_facts.proofs.web.Web.new.Goals as goal

pub returns : goal.returns
returns c = new_whole c.new.ensures c.new-2.ensures c.new-3.ensures.items c.new-4.ensures
