use Rattle.ba_kernel.specs.Steps.{ViewRefuses}
use Rattle.ba_kernel.proofs.PassLemmas.{tested_as}
use Rattle.ba_kernel.proofs.passes.part.test_view.Goals as goal

pub returns-in_default : goal.returns-in_default
returns-in_default c = ViewRefuses.no_part c.in_default.ensures

pub returns : goal.returns
returns c =
    tested_as c.test_facts.result (λ pass. record { it = c.in-Some.it.now; is_part = c.in-Some.ensures; pass = pass })
    (λ fault refuse. ViewRefuses.facts_refuse c.in-Some.ensures refuse) c.test_facts.ensures
