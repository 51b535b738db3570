use Rattle.std.proofs.Common.{length, subst, sym}
use Rattle.std.proofs.lemmas.Result.{IfOk-weaker}
use Rattle.std.specs.List.{All}
use Rattle.ba_kernel.proofs.BuildNext.{view_leads, view_parts, view_terms}
use Rattle.ba_kernel.specs.Effects.{AreNext}
use Rattle.ba_kernel.specs.Steps.{ViewLeads}
use Rattle.ba_kernel.specs.Tidy.{IsPartFor}
use Rattle.ba_facts.specs.declared.term.Side.TheVariants.{Two}
use Rattle.ba_kernel.proofs.cases.entry.view_cases.Goals as goal

pub next_cases-requires-clause-terms : goal.next_cases-requires-clause-terms
next_cases-requires-clause-terms c =
    view_terms c.args.problem.now c.args.branch c.requires.fits c.requires.tidy c.args.view c.args.part c.args.facts.now c.view_at-it.result.now
    c.get-of.result.now c.view_at-it.ensures c.get-of.ensures c.requires.passes

pub next_cases-requires-clause-fits : goal.next_cases-requires-clause-fits
next_cases-requires-clause-fits c =
    subst (All (IsPartFor c.args.problem.now.policy.schema (length c.get-of.result.now.head))) (sym c.as_slice-parts.ensures)
    (view_parts c.args.problem.now c.args.branch c.requires.fits c.requires.tidy c.args.view c.args.part c.args.facts.now c.view_at-it.result.now
    c.get-of.result.now c.view_at-it.ensures c.get-of.ensures c.requires.passes)

pub returns : goal.returns
returns c =
    let p = c.args.problem.now in
    let b = c.args.branch in
    IfOk-weaker c.next_cases.result (λ cases. AreNext p.policy.schema b Two c.get-of.result.now c.args.facts.now c.as_slice-parts.result.now cases.items)
    (λ cases. ViewLeads p b c.args.view c.args.part c.args.facts.now cases.items)
    (λ cases h. view_leads p b c.requires.fits c.requires.tidy c.args.view c.args.part c.args.facts.now c.view_at-it.result.now c.get-of.result.now
    c.view_at-it.ensures c.get-of.ensures c.requires.passes c.as_slice-parts.result.now cases.items c.as_slice-parts.ensures h)
    c.next_cases.ensures
