use Rattle.ba_facts.specs.Known.{seen}
use Rattle.ba_facts.proofs.web.Web.lift.Goals as goal

pub returns-clause-ok : goal.returns-clause-ok
returns-clause-ok c = λ k h l e left right d f r w.
    c.in_ok-rise.ensures.ok k h l (seen c.args.a) (seen c.args.b) (c.number-2.ensures.numbers _ _ c.in_ok-x.ensures.found) c.in_ok-y.ensures.found d f r (c.number-2.ensures.kept k e right (c.number.ensures.kept k e left w))
