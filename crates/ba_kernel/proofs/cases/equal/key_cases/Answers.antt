use Rattle.std.proofs.lemmas.Result.{IfOk-weaker}
use Rattle.std.proofs.Common.{◌≡◌, ◌∷◌, [], Some, ap, subst, ◌∙◌}
use Rattle.std.specs.List.{slice_get}
use Rattle.ba_facts.specs.declared.branch.Branch.{Branch}
use Rattle.ba_facts.specs.declared.term.Fact.{Fact}
use Rattle.ba_kernel.proofs.BuildSteps.{fact_terms, key_leads, key_wide}
use Rattle.ba_kernel.specs.Steps.{KeyLeads}
use Rattle.ba_kernel.proofs.cases.equal.key_cases.Goals as goal

pub equate_rows-requires-clause-wide : goal.equate_rows-requires-clause-wide
equate_rows-requires-clause-wide c =
    let at_left = subst (λ (b : Branch). slice_get b.facts c.args.left ≡ Some c.in_ok-f.f) c.deref.ensures c.in_ok-f.ensures in
    let at_right = subst (λ (b : Branch). slice_get b.facts c.args.right ≡ Some c.in_ok-g.g) c.deref-2.ensures c.in_ok-g.ensures in
    key_wide c.args.problem.now c.args.branch c.requires.tidy c.args.key c.args.left c.args.right c.in_ok-f.f c.in_ok-g.g at_left
    at_right c.requires.passes c.as_slice-terms.result.now c.as_slice-others.result.now (c.as_slice-terms.ensures ∙ ap (λ (x : Fact). x.terms) c.deref-3.ensures) (c.as_slice-others.ensures ∙ ap (λ (x : Fact). x.terms) c.deref-4.ensures)

pub equate_rows-requires-clause-left : goal.equate_rows-requires-clause-left
equate_rows-requires-clause-left c =
    let at_left = subst (λ (b : Branch). slice_get b.facts c.args.left ≡ Some c.in_ok-f.f) c.deref.ensures c.in_ok-f.ensures in
    fact_terms c.args.problem.now.policy.schema c.args.branch c.get_mut.result.now c.args.left c.in_ok-f.f c.as_slice-terms.result.now
    c.requires.tidy.facts at_left (c.as_slice-terms.ensures ∙ ap (λ (x : Fact). x.terms) c.deref-3.ensures) c.get_mut.ensures.value

pub equate_rows-requires-clause-right : goal.equate_rows-requires-clause-right
equate_rows-requires-clause-right c =
    let at_right = subst (λ (b : Branch). slice_get b.facts c.args.right ≡ Some c.in_ok-g.g) c.deref-2.ensures c.in_ok-g.ensures in
    fact_terms c.args.problem.now.policy.schema c.args.branch c.get_mut.result.now c.args.right c.in_ok-g.g c.as_slice-others.result.now
    c.requires.tidy.facts at_right (c.as_slice-others.ensures ∙ ap (λ (x : Fact). x.terms) c.deref-4.ensures) c.get_mut.ensures.value

pub returns : goal.returns
returns c =
    let at_left = subst (λ (b : Branch). slice_get b.facts c.args.left ≡ Some c.in_ok-f.f) c.deref.ensures c.in_ok-f.ensures in
    let at_right = subst (λ (b : Branch). slice_get b.facts c.args.right ≡ Some c.in_ok-g.g) c.deref-2.ensures c.in_ok-g.ensures in
    IfOk-weaker c.one_case.result (λ cases. cases.items ≡ c.equate_rows.new.new ∷ [])
    (λ cases. KeyLeads c.args.problem.now c.args.branch c.args.key c.args.left c.args.right cases.items)
    (λ cases h. key_leads c.args.problem.now c.args.branch c.requires.tidy c.args.key c.args.left c.args.right c.in_ok-f.f c.in_ok-g.g
    at_left at_right c.requires.passes c.as_slice-terms.result.now c.as_slice-others.result.now c.get_mut.result.now c.equate_rows.new.new
    cases.items (c.as_slice-terms.ensures ∙ ap (λ (x : Fact). x.terms) c.deref-3.ensures) (c.as_slice-others.ensures ∙ ap (λ (x : Fact). x.terms) c.deref-4.ensures) c.get_mut.ensures.value c.in_ok-equate_rows.ensures h)
    c.one_case.ensures
