use Rattle.ba_facts.proofs.WebLemmas.{deny_whole}
use Rattle.ba_facts.proofs.web.Web.deny.Goals as goal

pub returns : goal.returns
returns c = λ k h l a b is js d e keeps w. deny_whole d e keeps is js c.deny.ensures c.deny-2.ensures w
