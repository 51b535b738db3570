use Rattle.std.proofs.Common.{◌≡◌, subst, sym, ◌∙◌}
use Rattle.std.proofs.lemmas.Bool.{false≢true}
use Rattle.std.proofs.lemmas.Result.{IfOk-weaker}
use Rattle.ba_model.specs.Limits.{most_steps}
use Rattle.ba_general.proofs.GeneralLemmas.{told_with, told_without, tried_few, unsplit_stay}
use Rattle.ba_general.specs.Conditions.{IsAcceptedFully}
use Rattle.ba_general.specs.Generals.{IsToldBy}
use Rattle.ba_general.specs.Retold.{AreWithVariables}
use Rattle.ba_general.proofs.general.general_steps.Goals as goal

pub returns-then-not-has_split-clause-told : goal.returns-then-not-has_split-clause-told
returns-then-not-has_split-clause-told c =
    let it = c.args.pattern.now in
    let same = unsplit_stay c.as_slice.result.now c.args.kept.now c.in_ok-steps.steps (λ any. false≢true (sym c.if-not-has_split.true ∙ c.has_split.ensures.1 any)) c.in_ok-steps.ensures in
    told_with c.args.pattern.now c.args.kept.now c.in_ok-steps.steps
    (subst (λ vs. AreWithVariables vs c.args.kept.now c.in_ok-steps.steps) c.as_slice.ensures c.in_ok-steps.ensures)
    (subst (IsAcceptedFully it.problem it.operands) (sym same) c.requires.accepted)

pub returns-then-not-has_split-clause-accepted : goal.returns-then-not-has_split-clause-accepted
returns-then-not-has_split-clause-accepted c =
    let it = c.args.pattern.now in
    let same = unsplit_stay c.as_slice.result.now c.args.kept.now c.in_ok-steps.steps (λ any. false≢true (sym c.if-not-has_split.true ∙ c.has_split.ensures.1 any)) c.in_ok-steps.ensures in
    subst (IsAcceptedFully it.problem it.operands) (sym same) c.requires.accepted

pub returns-then-not-has_split-clause-few : goal.returns-then-not-has_split-clause-few
returns-then-not-has_split-clause-few c = tried_few c.as_slice.result.now c.args.kept.now c.in_ok-steps.steps most_steps c.in_ok-steps.ensures c.requires.few

pub returns-then-told-clause-told : goal.returns-then-told-clause-told
returns-then-told-clause-told c =
    told_with c.args.pattern.now c.args.kept.now c.in_ok-steps.steps
    (subst (λ vs. AreWithVariables vs c.args.kept.now c.in_ok-steps.steps) c.as_slice.ensures c.in_ok-steps.ensures) (c.in_ok-told.ensures.0 c.if-told.true)

pub returns-then-told-clause-few : goal.returns-then-told-clause-few
returns-then-told-clause-few c = tried_few c.as_slice.result.now c.args.kept.now c.in_ok-steps.steps most_steps c.in_ok-steps.ensures c.requires.few

pub returns-else-told-clause-told : goal.returns-else-told-clause-told
returns-else-told-clause-told c =
    IfOk-weaker c.copy.result (λ it. it ≡ c.args.kept.now) (IsToldBy c.args.pattern.now c.args.kept.now)
    (λ it e. told_without c.args.pattern.now c.args.kept.now c.in_ok-steps.steps it
    (subst (λ vs. AreWithVariables vs c.args.kept.now c.in_ok-steps.steps) c.as_slice.ensures c.in_ok-steps.ensures)
    (λ h. false≢true (sym c.if-told.false ∙ c.in_ok-told.ensures.1 h)) e)
    c.copy.ensures
