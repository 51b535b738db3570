use Rattle.std.specs.Option.{option_map}
use Rattle.std.proofs.Common.{sym, subst}
use Rattle.ba_kernel.proofs.TargetLemmas.{some_with, with_some}
use Rattle.ba_kernel.specs.Targets.{HaveTargets, HaveTargetsIfAny}
use Rattle.ba_kernel.proofs.news.rows.has_target.Goals as goal

pub returns-in-Some : goal.returns-in-Some
returns-in-Some c =
    let have : HaveTargets c.args.branch.now c.args.fact.now c.args.link.now c.in-Some.unknowns.items =
    subst (λ o. HaveTargetsIfAny c.args.branch.now c.args.fact.now c.args.link.now (option_map (λ it. it.items) o)) c.in-Some.is c.sought.ensures in
    let list = subst (λ l. HaveTargets c.args.branch.now c.args.fact.now c.args.link.now l) (sym c.deref.ensures.value) have in
    (λ e. some_with c.args.branch.now c.args.fact.now c.args.link.now _ (c.has_target_in.ensures.0 e), λ h. c.has_target_in.ensures.1 (with_some c.args.branch.now c.args.fact.now c.args.link.now _ list h))
