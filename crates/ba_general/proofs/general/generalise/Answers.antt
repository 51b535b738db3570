use Rattle.std.proofs.Common.{◌<◌, All, arith, length, subst, sym, ◌∙◌}
use Rattle.std.proofs.lemmas.Bool.{false≢true}
use Rattle.ba_kernel.specs.Courses.{ProblemFits}
use Rattle.ba_model.specs.Limits.{most_steps}
use Rattle.ba_general.proofs.EntryLemmas.{numbers_there}
use Rattle.ba_general.proofs.GeneralLemmas.{generalised_of, made_accepted, made_fits, made_stands, question_fits, renumbered_few, wide_by_cases, wide_by_entries, wide_by_operands}
use Rattle.ba_general.proofs.InstanceLemmas.{own_instance}
use Rattle.ba_general.proofs.MinimalLemmas.{template_is_minimal}
use Rattle.ba_general.specs.Generals.{IsOfQuestion}
use Rattle.ba_general.specs.Patterns.{IsPattern}
use Rattle.ba_general.specs.Retold.{AreRenumbered}
use Rattle.ba_general.proofs.general.generalise.Goals as goal

pub returns-then-told-clause-wide : goal.returns-then-told-clause-wide
returns-then-told-clause-wide c =
    wide_by_cases c.args.proved.now c.problem-problem.result.now c.steps-steps.result.now c.problem-problem.ensures.is c.steps-steps.ensures.is
    (c.in_ok-told.ensures c.if-told.true)

pub kept_steps-requires-clause-fits : goal.kept_steps-requires-clause-fits
kept_steps-requires-clause-fits c = subst ProblemFits (sym c.problem-problem.ensures.is) (question_fits c.args.proved.now.problem c.requires)

pub returns-then-len-gt-MAX_KEPT_ENTRIES-clause-wide : goal.returns-then-len-gt-MAX_KEPT_ENTRIES-clause-wide
returns-then-len-gt-MAX_KEPT_ENTRIES-clause-wide c =
    wide_by_entries c.args.proved.now c.problem-problem.result.now c.steps-steps.result.now c.in_ok-kept.kept c.in_ok-numbers.numbers.items c.problem-problem.ensures.is
    c.steps-steps.ensures.is c.in_ok-kept.ensures.kept c.in_ok-numbers.ensures
    (omega (arith, c.len.ensures, c.in_ok-numbers.numbers.ok.0, c.if-len-gt-MAX_KEPT_ENTRIES.true))

pub of-requires-clause-fits : goal.of-requires-clause-fits
of-requires-clause-fits c = subst ProblemFits (sym c.problem-problem.ensures.is) (question_fits c.args.proved.now.problem c.requires)

pub of-requires-clause-there : goal.of-requires-clause-there
of-requires-clause-there c =
    subst (λ ns. All (λ n. n < length c.problem-problem.result.now.entries) ns) (sym c.as_slice.ensures.value)
    (numbers_there c.problem-problem.result.now c.in_ok-kept.kept c.in_ok-numbers.numbers.items c.in_ok-kept.ensures.closes c.in_ok-numbers.ensures)

pub returns-then-is_wide-clause-wide : goal.returns-then-is_wide-clause-wide
returns-then-is_wide-clause-wide c =
    wide_by_operands c.args.proved.now c.problem-problem.result.now c.steps-steps.result.now c.in_ok-kept.kept c.as_slice.result.now c.in_ok-numbers.numbers.items
    c.in_ok-pattern.pattern c.problem-problem.ensures.is c.steps-steps.ensures.is c.as_slice.ensures.value c.in_ok-kept.ensures.kept c.in_ok-numbers.ensures
    c.in_ok-pattern.ensures.pattern (c.is_wide.ensures.0 c.if-is_wide.true)

pub made_general-requires-clause-fits : goal.made_general-requires-clause-fits
made_general-requires-clause-fits c =
    made_fits c.problem-problem.result.now c.as_slice.result.now c.in_ok-pattern.pattern
    (subst ProblemFits (sym c.problem-problem.ensures.is) (question_fits c.args.proved.now.problem c.requires))
    (subst IsOfQuestion (sym c.problem-problem.ensures.is) c.requires) c.in_ok-pattern.ensures.pattern c.in_ok-pattern.ensures.operands

pub made_general-requires-clause-few : goal.made_general-requires-clause-few
made_general-requires-clause-few c =
    renumbered_few c.as_slice-2.result.now c.in_ok-kept.kept c.in_ok-kept-2.kept (length c.steps-steps.result.now) most_steps c.in_ok-kept-2.ensures c.in_ok-kept.ensures.few
    c.steps-steps.ensures.proved.few

pub made_general-requires-clause-stands : goal.made_general-requires-clause-stands
made_general-requires-clause-stands c = made_stands c.problem-problem.result.now c.as_slice.result.now c.in_ok-pattern.pattern c.in_ok-pattern.ensures.pattern

pub made_general-requires-clause-accepted : goal.made_general-requires-clause-accepted
made_general-requires-clause-accepted c =
    let it = c.in_ok-pattern.pattern in
    made_accepted c.problem-problem.result.now c.in_ok-numbers.numbers.items c.in_ok-pattern.pattern c.in_ok-kept.kept c.in_ok-kept-2.kept
    (subst IsOfQuestion (sym c.problem-problem.ensures.is) c.requires)
    (subst (λ ns. IsPattern c.problem-problem.result.now ns it.problem it.values) c.as_slice.ensures.value c.in_ok-pattern.ensures.pattern)
    c.in_ok-pattern.ensures.operands c.in_ok-numbers.ensures
    (subst (λ ns. AreRenumbered ns c.in_ok-kept.kept c.in_ok-kept-2.kept) c.as_slice-2.ensures.value c.in_ok-kept-2.ensures) c.in_ok-kept.ensures.closes

pub returns : goal.returns
returns c =
    let proof = c.args.proved.now in
    let template = c.in_ok-made_general.field-0 in
    let made = generalised_of c.args.proved.now c.in_ok-made_general.field-0 c.problem-problem.result.now c.steps-steps.result.now c.in_ok-kept.kept c.in_ok-kept-2.kept
    c.as_slice.result.now c.as_slice-2.result.now c.in_ok-numbers.numbers.items c.in_ok-pattern.pattern c.problem-problem.ensures.is c.steps-steps.ensures.is
    c.as_slice.ensures.value c.as_slice-2.ensures.value c.in_ok-kept.ensures.kept c.in_ok-numbers.ensures c.in_ok-pattern.ensures.pattern
    c.in_ok-pattern.ensures.operands (omega (arith, c.len.ensures, c.in_ok-numbers.numbers.ok.0, c.if-len-gt-MAX_KEPT_ENTRIES.false))
    (λ h. false≢true (sym c.if-is_wide.false ∙ c.is_wide.ensures.1 h)) c.in_ok-kept-2.ensures c.in_ok-made_general.ensures.told
    c.in_ok-made_general.ensures.condition c.in_ok-made_general.ensures.problem in
    record {
      template = made;
      instance = own_instance c.args.proved.now c.in_ok-made_general.field-0 c.requires made;
      minimal = template_is_minimal c.args.proved.now c.in_ok-made_general.field-0 made;
      wide = tt;
    }
