use Rattle.std.proofs.Common.{[], length, subst, sym}
use Rattle.std.proofs.lemmas.Result.{IfOk-weaker}
use Rattle.std.specs.List.{All, AllZip}
use Rattle.ba_kernel.proofs.BuildNext.{entry_leads, entry_parts, entry_terms, head_gives, ready_as, tidy_there}
use Rattle.ba_kernel.specs.Effects.{IsCase}
use Rattle.ba_kernel.specs.Steps.{EntryLeads}
use Rattle.ba_kernel.specs.Tidy.{HasTerm, IsPartFor}
use Rattle.ba_facts.specs.declared.term.Side.TheVariants.{One}
use Rattle.ba_kernel.proofs.cases.entry.entry_cases.Goals as goal

pub operand_row-requires : goal.operand_row-requires
operand_row-requires c =
    subst (All (HasTerm [])) (sym c.as_slice-operands.ensures)
    (entry_terms c.args.problem.now c.args.entry c.get-it.result.now c.requires.fits c.get-it.ensures)

pub part_cases-requires-clause-ready : goal.part_cases-requires-clause-ready
part_cases-requires-clause-ready c =
    ready_as c.args.branch [] c.as_slice-operands.result.now c.in_ok-terms.terms.items c.as_slice-row.result.now
    (tidy_there c.args.problem.now c.args.branch c.requires.tidy) c.in_ok-terms.ensures c.as_slice-row.ensures.value

pub part_cases-requires-clause-fits : goal.part_cases-requires-clause-fits
part_cases-requires-clause-fits c =
    let gives = head_gives c.args.branch [] c.get-it.result.now.row c.as_slice-operands.result.now c.in_ok-terms.terms.items c.as_slice-row.result.now
    c.as_slice-operands.ensures c.in_ok-terms.ensures c.as_slice-row.ensures.value in
    subst (All (IsPartFor c.args.problem.now.policy.schema (length c.as_slice-row.result.now))) (sym c.parts-parts.ensures)
    (entry_parts c.args.problem.now c.args.entry c.get-it.result.now c.requires.fits c.get-it.ensures c.as_slice-row.result.now gives)

pub returns : goal.returns
returns c =
    let p = c.args.problem.now in
    let b = c.args.branch in
    let row = c.as_slice-row.result.now in
    IfOk-weaker c.part_cases.result
    (λ cases. AllZip (IsCase p.policy.schema b One c.entry_round-round.result row) c.parts-parts.result.now cases.items)
    (λ cases. EntryLeads p b c.args.entry cases.items)
    (λ cases h. entry_leads p c.args.entry c.get-it.result.now c.requires.fits c.get-it.ensures b c.as_slice-operands.result.now c.in_ok-terms.terms.items row
    c.entry_round-round.result c.parts-parts.result.now cases.items c.as_slice-operands.ensures c.in_ok-terms.ensures c.as_slice-row.ensures.value
    c.entry_round-round.ensures c.parts-parts.ensures h)
    c.part_cases.ensures
