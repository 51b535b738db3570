use Rattle.std.proofs.Common.{subst}
use Rattle.ba_facts.specs.Finding.{AreFound}
use Rattle.ba_facts.proofs.found.differ.Goals as goal

pub returns-in-One : goal.returns-in-One
returns-in-One c = λ k a b f g.
    let here = subst (AreFound k a) c.in-One.is f in
    c.one_differs.ensures k a b here.0 here.1 g

pub returns-in-Several : goal.returns-in-Several
returns-in-Several c = λ k a b f g. c.has_literal.ensures k a b (subst (AreFound k a) c.in-Several.is f) g
