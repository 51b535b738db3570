use Rattle.std.proofs.Common.{◌≡◌, ◌+◌, Some, map, subst}
use Rattle.std.specs.List.{AllZip}
use Rattle.ba_facts.specs.Matches.{round_of, row_of}
use Rattle.ba_facts.specs.declared.branch.Branch.{Branch}
use Rattle.std.proofs.lemmas.Result.{IfOk-weaker}
use Rattle.ba_kernel.proofs.BuildNext.{fits_row, head_gives, next_is, ready_as}
use Rattle.ba_kernel.specs.Effects.{AreNext, IsCase}
use Rattle.ba_kernel.proofs.cases.entry.next_cases.Goals as goal

pub part_cases-requires-clause-ready : goal.part_cases-requires-clause-ready
part_cases-requires-clause-ready c =
    ready_as c.args.branch c.args.facts.now c.as_slice-operands.result.now c.in_ok-terms.terms.items c.as_slice-row.result.now c.requires.there
    (subst (λ (b : Branch). row_of b c.args.facts.now c.as_slice-operands.result.now ≡ map Some c.in_ok-terms.terms.items) c.deref.ensures c.in_ok-terms.ensures)
    c.as_slice-row.ensures.value

pub part_cases-requires-clause-fits : goal.part_cases-requires-clause-fits
part_cases-requires-clause-fits c =
    fits_row c.args.branch c.args.facts.now c.args.part.now.head c.as_slice-operands.result.now c.in_ok-terms.terms.items c.as_slice-row.result.now
    c.as_slice-operands.ensures
    (subst (λ (b : Branch). row_of b c.args.facts.now c.as_slice-operands.result.now ≡ map Some c.in_ok-terms.terms.items) c.deref.ensures c.in_ok-terms.ensures)
    c.as_slice-row.ensures.value c.args.problem.now.policy.schema c.args.parts.now c.requires.fits

pub returns : goal.returns
returns c =
    let s = c.args.problem.now.policy.schema in
    let b = c.args.branch in
    let row = c.as_slice-row.result.now in
    let gives = head_gives b c.args.facts.now c.args.part.now.head c.as_slice-operands.result.now c.in_ok-terms.terms.items row
    c.as_slice-operands.ensures
    (subst (λ (b : Branch). row_of b c.args.facts.now c.as_slice-operands.result.now ≡ map Some c.in_ok-terms.terms.items) c.deref.ensures c.in_ok-terms.ensures)
    c.as_slice-row.ensures.value in
    let round_is = subst (λ (at : Branch). c.in_ok-round.round ≡ 1 + round_of at c.args.facts.now) c.deref-2.ensures c.in_ok-round.ensures.value in
    IfOk-weaker c.part_cases.result (λ cases. AllZip (IsCase s b c.args.side c.in_ok-round.round row) c.args.parts.now cases.items)
    (λ cases. AreNext s b c.args.side c.args.part.now c.args.facts.now c.args.parts.now cases.items)
    (λ cases h. next_is s b c.args.side c.in_ok-round.round c.args.part.now c.args.facts.now row c.args.parts.now cases.items gives round_is h)
    c.part_cases.ensures
