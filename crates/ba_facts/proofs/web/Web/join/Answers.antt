use Rattle.ba_facts.proofs.WebLemmas.{join_step}
use Rattle.ba_facts.proofs.web.Web.join.Goals as goal

pub returns-clause-ok : goal.returns-clause-ok
returns-clause-ok c = λ k l a b is js j w.
    join_step _ w j is js c.mark_of-left.result c.mark_of-right.result c.both-mark.result c.mark_of-left.ensures c.mark_of-right.ensures c.in_ok-order.ensures c.in_ok-merge.ensures.ok c.both-mark.ensures c.set_mark.ensures c.replace.ensures c.is_several.ensures
