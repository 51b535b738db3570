use Rattle.std.proofs.Common.{[], ◌∙◌, ap₂, subst}
use Rattle.std.proofs.lemmas.Result.{IfOk-weaker}
use Rattle.ba_match.proofs.NumberLemmas.{closes_so, found_at}
use Rattle.ba_match.specs.Instances.{AreToldAt, steps_with}
use Rattle.ba_match.proofs.accepted.closes_question.Goals as goal

pub returns : goal.returns
returns c =
    let at = subst (λ places. AreToldAt c.args.trace.now places c.in-Some.told) c.as_slice.ensures (found_at _ _ _ c.in-Some.is c.in_ok-told.ensures) in
    let own = c.in_ok-steps.ensures ∙ ap₂ (λ values taken. steps_with values [] taken) c.as_slice-values.ensures (c.as_slice-2.ensures ∙ c.steps-steps.ensures.is) in
    IfOk-weaker c.closes_after.result _ _
    (closes_so c.args.policy.now c.args.ctx.now c.args.trace.now c.in-Some.told c.args.query.now c.args.found.now c.args.template.now.steps c.in_ok-steps.steps at own)
    c.closes_after.ensures
