use Rattle.std.proofs.Common.{◌<◌, ◌∙◌, List, ap, subst}
use Rattle.ba_model.specs.declared.policy.Parameter.{Parameter}
use Rattle.ba_model.specs.declared.policy.Policy.{Policy}
use Rattle.ba_decide.specs.Evident.{AddsBased}
use Rattle.ba_live.specs.Steps.{question_in}
use Rattle.ba_decide.proofs.EvidentLemmas.{holds_more, holds_none}
use Rattle.ba_decide.proofs.evident.all_based.Goals as goal

pub loop-i-init : goal.loop-i-init
loop-i-init c = holds_none c.args.live.now.policy c.args.asker.now c.new-grounds.result c.new-grounds.ensures

pub loop-i-preserved : goal.loop-i-preserved
loop-i-preserved c =
    let i = c.loop-i.i in
    let policy = c.args.live.now.policy in
    let asker = c.args.asker.now in
    let q = c.index-queries-i.result in
    let b = c.index-by-i.result in
    let old = c.loop-i.grounds in
    let new = c.push_basis.new.grounds in
    let lent = c.policy-policy.result.now in
    let named = subst (λ (ps : List Parameter). AddsBased ps (question_in lent asker q) b old new) (c.as_slice.ensures ∙ ap (λ p. p.params) c.deref.ensures) c.in_ok-push_basis.ensures in
    let adds = subst (λ (p : Policy). AddsBased p.params (question_in p asker q) b old new) c.policy-policy.ensures named in
    holds_more policy asker c.args.queries.now c.args.by.now i q b old new c.loop-i-test.true (subst (λ n. i < n) c.if-queries-by.false c.loop-i-test.true)
    c.index-queries-i.is c.index-by-i.is c.loop-i.invariant adds
