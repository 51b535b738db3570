use Rattle.ba_facts.specs.Known.{seen}
use Rattle.ba_facts.proofs.web.Web.different_literals.Goals as goal

pub returns : goal.returns
returns c = λ k w. c.differ.ensures k (seen c.args.a) (seen c.args.b) (c.literals.ensures k w) (c.literals-2.ensures k w)
