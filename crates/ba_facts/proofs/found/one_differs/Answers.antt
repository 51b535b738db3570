use Rattle.std.proofs.Common.{subst}
use Rattle.ba_facts.specs.Finding.{AreFound}
use Rattle.ba_facts.proofs.QueryLemmas.{both_one, one_several}
use Rattle.ba_facts.proofs.found.one_differs.Goals as goal

pub returns-in-One : goal.returns-in-One
returns-in-One c = λ k a b p one g.
    let other = subst (AreFound k b) c.in-One.is g in
    both_one c.args.value.now c.in-One.other.now c.same.result c.same.ensures p one other.0 other.1

pub returns-in-Several : goal.returns-in-Several
returns-in-Several c = λ k a b p one g. one_several c.args.value.now p (subst (AreFound k b) c.in-Several.is g)
