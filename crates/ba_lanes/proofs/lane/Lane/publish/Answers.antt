use Rattle.std.proofs.Common.{[], Some, ◌∙◌, ap, refl, sym}
use Rattle.ba_model.specs.declared.policy.Policy.{Policy}
use Rattle.ba_lanes.proofs.LaneLemmas.{publish_left, set_of, takes_published, takes_unpublished}
use Rattle.ba_lanes.proofs.lane.Lane.publish.Goals as goal

pub get-requires : goal.get-requires
get-requires g c = (c.requires.can []).comes

pub publish-requires-clause-of : goal.publish-requires-clause-of
publish-requires-clause-of g c = (c.requires.can []).of

pub publish-requires-clause-left : goal.publish-requires-clause-left
publish-requires-clause-left g c = publish_left c.args.number [] c.args.self.now.passes (c.requires.can []).can

pub publish-requires-clause-schema : goal.publish-requires-clause-schema
publish-requires-clause-schema g c =
    let input = c.args.input.now in
    let there = c.get.ensures ∙ ap Some (sym c.in-Ok.ensures) in
    (set_of input.policy.schema input.published c.args.number c.in-Ok.tables c.requires.input.sets there).schema_is ∙ sym (ap (λ (p : Policy). p.schema) c.requires.policy)

pub returns-in-Ok : goal.returns-in-Ok
returns-in-Ok g c name =
    let there = c.get.ensures ∙ ap Some (sym c.in-Ok.ensures) in
    takes_published c.args.input.now c.args.service.now c.args.self.now _ c.publish.ensures.of refl refl c.args.number name c.in-Ok.tables c.publish.result there refl c.publish.ensures.made
    c.publish.ensures.others

pub returns-in-Err : goal.returns-in-Err
returns-in-Err g c name = takes_unpublished c.args.input.now c.args.service.now c.args.self.now _ (c.requires.can []).of refl refl c.args.number name refl refl
