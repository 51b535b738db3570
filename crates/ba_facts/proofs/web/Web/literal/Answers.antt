use Rattle.ba_facts.specs.Known.{seen}
use Rattle.ba_facts.proofs.QueryLemmas.{class_mark_is, marks_numbered, only_alone}
use Rattle.ba_facts.proofs.web.Web.literal.Goals as goal

pub one_of-requires : goal.one_of-requires
one_of-requires c = marks_numbered _ _ (seen c.args.a) _ (class_mark_is c.requires.web.terms_are (seen c.args.a) c.in-Some.mark c.in-Some.ensures).literals

pub returns-in-Some : goal.returns-in-Some
returns-in-Some c = λ k w. c.one_of.ensures k (seen c.args.a) (class_mark_is w.terms_are (seen c.args.a) c.in-Some.mark c.in-Some.ensures).literals

pub returns-in-None : goal.returns-in-None
returns-in-None c = λ k w. c.own_literal.ensures k (only_alone w.terms_are (seen c.args.a) c.in-None.ensures)
