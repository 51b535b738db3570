use Rattle.std.proofs.lemmas.Result.{IfOk-weaker}
use Rattle.std.proofs.Common.{◌≡◌, Some, ap}
use Rattle.std.specs.Option.{option_copied}
use Rattle.ba_facts.specs.declared.branch.Branch.{Branch}
use Rattle.ba_kernel.proofs.SpareLemmas.{brought, leads_on}
use Rattle.ba_kernel.specs.Spares.{LeadsTo}
use Rattle.ba_kernel.specs.SearchStates.{open_at}
use Rattle.ba_kernel.proofs.search.Search.brought_up.Goals as goal

pub again-requires-clause-one : goal.again-requires-clause-one
again-requires-clause-one c =
    leads_on c.args.self.now c.self.inside.problem c.self.inside.steps c.self.inside.slots.items c.args.before c.in-Some.old _ c.in-Some-last_on.step.now c.args.number
    c.self.view_is c.in-Some.is c.requires (ap option_copied c.in-Some-last_on.is) c.last_on.ensures

pub returns : goal.returns
returns c =
    IfOk-weaker c.again.result (λ it. (new : Branch) → LeadsTo c.self.inside.problem c.in-Some.old c.in-Some-last_on.step.now new → it ≡ Some new)
    (λ it. (b : Branch) → it ≡ Some b → open_at c.args.self.now.slots c.args.number ≡ Some b)
    (λ it all. brought c.args.self.now c.self.inside.problem c.self.inside.steps c.self.inside.slots.items c.args.before c.in-Some.old _ c.in-Some-last_on.step.now
    c.args.number c.self.view_is c.in-Some.is c.requires (ap option_copied c.in-Some-last_on.is) c.last_on.ensures it all)
    c.again.ensures
