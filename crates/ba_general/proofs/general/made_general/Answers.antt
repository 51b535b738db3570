use Rattle.std.proofs.Common.{◌≡◌, ap, subst, sym}
use Rattle.std.proofs.lemmas.Result.{IfOk-weaker}
use Rattle.ba_kernel.specs.Courses.{ProblemFits}
use Rattle.ba_kernel.specs.SearchStates.{Proof}
use Rattle.ba_template.specs.Templates.{EachVarStands}
use Rattle.ba_general.proofs.GeneralLemmas.{assuming_stands, condition_fits}
use Rattle.ba_general.specs.Conditions.{IsCondition}
use Rattle.ba_general.specs.Generals.{IsToldBy}
use Rattle.ba_general.specs.Patterns.{assuming}
use Rattle.ba_general.proofs.general.made_general.Goals as goal

pub of-requires-clause-fits : goal.of-requires-clause-fits
of-requires-clause-fits c =
    subst ProblemFits (sym (ap (λ (it : Proof). it.problem) c.in_ok-proof.ensures.is))
    (condition_fits c.args.pattern.now c.in_ok-proof.proof.problem.assumed c.requires.fits c.in_ok-proof.ensures.condition)

pub of-requires-clause-stands : goal.of-requires-clause-stands
of-requires-clause-stands c =
    subst EachVarStands (sym (ap (λ (it : Proof). it.problem) c.in_ok-proof.ensures.is))
    (assuming_stands c.args.pattern.now.problem c.in_ok-proof.proof.problem.assumed c.requires.stands)

pub returns-clause-told : goal.returns-clause-told
returns-clause-told c =
    IfOk-weaker c.of.result (λ it. it ≡ c.in_ok-proof.proof) (λ it. IsToldBy c.args.pattern.now c.args.kept.now it.steps)
    (λ it e. subst (λ (x : Proof). IsToldBy c.args.pattern.now c.args.kept.now x.steps) (sym e)
    (subst (IsToldBy c.args.pattern.now c.args.kept.now) (sym (ap (λ (x : Proof). x.steps) c.in_ok-proof.ensures.is)) c.in_ok-steps.ensures.told))
    c.of.ensures

pub returns-clause-condition : goal.returns-clause-condition
returns-clause-condition c =
    let it = c.args.pattern.now in
    IfOk-weaker c.of.result (λ x. x ≡ c.in_ok-proof.proof) (λ x. IsCondition it.problem it.operands x.steps x.problem.assumed)
    (λ x e. subst (λ (y : Proof). IsCondition it.problem it.operands y.steps y.problem.assumed) (sym e)
    (subst (λ taken. IsCondition it.problem it.operands taken c.in_ok-proof.proof.problem.assumed) (sym (ap (λ (y : Proof). y.steps) c.in_ok-proof.ensures.is))
    c.in_ok-proof.ensures.condition))
    c.of.ensures

pub returns-clause-problem : goal.returns-clause-problem
returns-clause-problem c =
    IfOk-weaker c.of.result (λ it. it ≡ c.in_ok-proof.proof) (λ it. it.problem ≡ assuming c.args.pattern.now.problem it.problem.assumed)
    (λ it e. subst (λ (x : Proof). x.problem ≡ assuming c.args.pattern.now.problem x.problem.assumed) (sym e)
    (ap (λ (x : Proof). x.problem) c.in_ok-proof.ensures.is))
    c.of.ensures
