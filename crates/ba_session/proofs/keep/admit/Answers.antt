use Rattle.std.proofs.Common.{[], ◌∷◌, inr, refl, subst}
use Rattle.ba_cache.specs.Passes.{CallsOn}
use Rattle.ba_cache.specs.Rows.{shape_of_template}
use Rattle.ba_cache.specs.declared.call.ShelfCall.TheVariants.{Admit, Refused}
use Rattle.ba_session.proofs.PassLemmas.{makes_one}
use Rattle.ba_template.specs.Shapes.{shard_of}
use Rattle.ba_session.proofs.keep.admit.Goals as goal

pub returns-in-Ok-admit-clause-admits : goal.returns-in-Ok-admit-clause-admits
returns-in-Ok-admit-clause-admits g c =
    let old = c.args.passes.now in
    let call = Admit (record { marker = record {}; value = c.args.template }) c.in-Ok-admit.answer in
    let made =
    subst (λ t. CallsOn (shard_of (shape_of_template t)) old.cache c.admit.new.pass (Admit (record { marker = record {}; value = t }) c.in-Ok-admit.answer)) c.in-Ok.ensures
    c.in-Ok-admit.ensures.call in
    (call ∷ [], refl, makes_one (shard_of (shape_of_template c.args.template)) call old _ refl made)

pub returns-in-Err-clause-admits : goal.returns-in-Err-clause-admits
returns-in-Err-clause-admits g c =
    let old = c.args.passes.now in
    let made = subst (λ t. CallsOn (shard_of (shape_of_template t)) old.cache c.admit.new.pass Refused) c.in-Ok.ensures c.in-Err.ensures.call in
    (Refused ∷ [], inr refl, makes_one (shard_of (shape_of_template c.args.template)) Refused old _ refl made)
