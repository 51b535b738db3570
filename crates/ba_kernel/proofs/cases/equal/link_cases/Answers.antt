use Rattle.std.proofs.Common.{◌≡◌, ◌∷◌, [], subst, sym}
use Rattle.std.proofs.lemmas.Result.{IfOk-weaker}
use Rattle.ba_facts.specs.declared.branch.Branch.{Branch}
use Rattle.ba_kernel.specs.Steps.{LinkLeads}
use Rattle.ba_kernel.proofs.cases.equal.link_cases.Goals as goal

pub returns : goal.returns
returns c =
    let p = c.args.problem.now in
    let b = c.args.branch in
    let leads = subst (λ (old : Branch). LinkLeads p old c.args.link c.args.fact (c.add_target.new.new ∷ [])) c.get_mut.ensures.value c.in_ok-add_target.ensures in
    IfOk-weaker c.one_case.result (λ cases. cases.items ≡ c.add_target.new.new ∷ []) (λ cases. LinkLeads p b c.args.link c.args.fact cases.items)
    (λ cases h. subst (LinkLeads p b c.args.link c.args.fact) (sym h) leads) c.one_case.ensures
