use Rattle.ba_facts.specs.Known.{seen}
use Rattle.ba_facts.proofs.QueryLemmas.{alone_denied, class_mark_is}
use Rattle.ba_facts.proofs.web.Web.not_null.Goals as goal

pub returns-in-Some : goal.returns-in-Some
returns-in-Some c = λ k known w. (class_mark_is w.terms_are (seen c.args.a) c.in-Some.mark c.in-Some.ensures).not_null

pub returns-in-None : goal.returns-in-None
returns-in-None c = λ k known w. alone_denied w.terms_are (seen c.args.a) c.args.unknowns.now c.own_not_null.result known c.in-None.ensures c.own_not_null.ensures
