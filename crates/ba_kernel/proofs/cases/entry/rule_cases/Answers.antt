use Rattle.std.proofs.Common.{◌≡◌, ◌<◌, Some, get_or, length, subst, sym}
use Rattle.std.proofs.lemmas.Result.{IfOk-weaker}
use Rattle.std.specs.List.{All, slice_get}
use Rattle.ba_facts.specs.declared.branch.Branch.{Branch}
use Rattle.ba_kernel.proofs.BuildSteps.{rule_first, rule_leads, rule_parts, rule_some, rule_terms}
use Rattle.ba_kernel.specs.Effects.{AreNext}
use Rattle.ba_kernel.specs.Steps.{RuleLeads}
use Rattle.ba_kernel.specs.Tidy.{IsPartFor}
use Rattle.ba_kernel.proofs.cases.entry.rule_cases.Goals as goal

pub bounds-facts-0 : goal.bounds-facts-0
bounds-facts-0 c =
    rule_some c.args.problem.now c.args.branch c.requires.fits c.requires.tidy c.args.rule c.args.part c.args.facts.now c.rule_at-it.result.now
    c.get-left.result.now c.rule_at-it.ensures c.get-left.ensures c.requires.passes

pub fact_at-first-requires : goal.fact_at-first-requires
fact_at-first-requires c =
    subst (λ (b : Branch). get_or c.args.facts.now 0 0 < length b.facts) (sym c.deref.ensures)
    (rule_first c.args.problem.now c.args.branch c.requires.fits c.requires.tidy c.args.rule c.args.part c.args.facts.now c.rule_at-it.result.now
    c.get-left.result.now c.rule_at-it.ensures c.get-left.ensures c.requires.passes)

pub next_cases-requires-clause-terms : goal.next_cases-requires-clause-terms
next_cases-requires-clause-terms c =
    rule_terms c.args.problem.now c.args.branch c.requires.fits c.requires.tidy c.args.rule c.args.part c.args.facts.now c.rule_at-it.result.now
    c.get-left.result.now c.rule_at-it.ensures c.get-left.ensures c.requires.passes

pub next_cases-requires-clause-fits : goal.next_cases-requires-clause-fits
next_cases-requires-clause-fits c =
    subst (All (IsPartFor c.args.problem.now.policy.schema (length c.get-left.result.now.head))) (sym c.as_slice-parts.ensures)
    (rule_parts c.args.problem.now c.args.branch c.requires.fits c.requires.tidy c.args.rule c.args.part c.args.facts.now c.rule_at-it.result.now
    c.get-left.result.now c.rule_at-it.ensures c.get-left.ensures c.requires.passes)

pub returns : goal.returns
returns c =
    let p = c.args.problem.now in
    let b = c.args.branch in
    IfOk-weaker c.next_cases.result
    (λ cases. AreNext p.policy.schema b c.fact_at-first.result.now.side c.get-left.result.now c.args.facts.now c.as_slice-parts.result.now cases.items)
    (λ cases. RuleLeads p b c.args.rule c.args.part c.args.facts.now cases.items)
    (λ cases h. rule_leads p b c.requires.fits c.requires.tidy c.args.rule c.args.part c.args.facts.now c.rule_at-it.result.now c.get-left.result.now
    c.rule_at-it.ensures c.get-left.ensures c.requires.passes c.fact_at-first.result.now c.as_slice-parts.result.now cases.items
    (subst (λ (b : Branch). slice_get b.facts (get_or c.args.facts.now 0 0) ≡ Some c.fact_at-first.result.now) c.deref.ensures c.fact_at-first.ensures)
    c.as_slice-parts.ensures h)
    c.next_cases.ensures
