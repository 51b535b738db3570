use Rattle.std.proofs.Common.{subst}
use Rattle.ba_facts.specs.Finding.{AreFound}
use Rattle.ba_facts.proofs.QueryLemmas.{several_one}
use Rattle.ba_facts.proofs.found.has_literal.Goals as goal

pub returns-in-One : goal.returns-in-One
returns-in-One c = λ k a b d g. several_one c.in-One.field-0.now d (subst (AreFound k b) c.in-One.is g).0

pub returns-in-Several : goal.returns-in-Several
returns-in-Several c = λ k a b d g. several_one _ d (subst (AreFound k b) c.in-Several.is g).left_in
