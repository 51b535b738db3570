use Rattle.std.proofs.Common.{◌∙◌, subst, sym}
use Rattle.ba_facts.specs.Knowing.{IsThere}
use Rattle.ba_facts.specs.declared.branch.Branch.{Branch}
use Rattle.ba_kernel.proofs.BuildSteps.{negation_there, split_there}
use Rattle.ba_kernel.proofs.cases.equal.split_cases.Goals as goal

pub assume-requires : goal.assume-requires
assume-requires c =
    negation_there c.args.branch c.get_mut.result.now c.args.atom.now c.in_ok-denied.denied c.requires
    (c.get_mut.ensures.value ∙ (c.in_ok-second.ensures ∙ c.deref.ensures)) c.in_ok-denied.ensures

pub assume-requires-2 : goal.assume-requires-2
assume-requires-2 c =
    subst (λ (b : Branch). IsThere b.known c.in_ok-held.held.left × IsThere b.known c.in_ok-held.held.right) (sym c.get_mut-2.ensures.value)
    (split_there c.args.branch c.args.atom.now c.in_ok-held.held c.requires c.in_ok-held.ensures)
