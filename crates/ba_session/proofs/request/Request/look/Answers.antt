use Rattle.std.proofs.Common.{[], ◌∙◌, ap, refl, subst}
use Rattle.std.proofs.lemmas.Result.{err_from_is_err_and}
use Rattle.ba_cache.specs.Passes.{CallsOn}
use Rattle.ba_cache.specs.declared.call.ShelfCall.TheVariants.{Look, Refused}
use Rattle.ba_session.proofs.JudgeLemmas.{weighs_looked, weighs_nothing, weighs_refused}
use Rattle.ba_session.specs.Asking.{effort_in}
use Rattle.ba_template.specs.Shapes.{shape_of, shard_of}
use Rattle.ba_session.proofs.request.Request.look.Goals as goal

pub returns-in_err-shape-clause-weighs : goal.returns-in_err-shape-clause-weighs
returns-in_err-shape-clause-weighs g c =
    let p = err_from_is_err_and c.from_residual.result c.from_residual.ensures.1 in
    weighs_nothing c.args.service.now.policy c.args.self.now (effort_in (g.S.Settle.orders c.args.settle.now) c.args.budget) c.args.query.now c.from_residual.result p.0 p.1 c.args.passes.now

pub returns-in_err-found-clause-weighs : goal.returns-in_err-found-clause-weighs
returns-in_err-found-clause-weighs g c =
    let old = c.args.passes.now in
    let p = err_from_is_err_and c.from_residual-in_err-found.result c.from_residual-in_err-found.ensures.1 in
    let shape = c.in_ok-shape.ensures ∙ ap (shape_of []) c.deref.ensures in
    let call = subst (λ s. CallsOn (shard_of s) old.cache c.look.new.pass Refused) shape c.in_err-found.ensures.call in
    weighs_refused c.args.service.now.policy c.args.self.now (effort_in (g.S.Settle.orders c.args.settle.now) c.args.budget) c.args.query.now c.requires.uncovered c.from_residual-in_err-found.result p.0 p.1
    old (record { versions = old.versions; cache = c.look.new.pass }) refl call

pub returns-clause-weighs : goal.returns-clause-weighs
returns-clause-weighs g c =
    let old = c.args.passes.now in
    let found = c.in_ok-found.found.templates in
    let shape = c.in_ok-shape.ensures ∙ ap (shape_of []) c.deref.ensures in
    let call = subst (λ s. CallsOn (shard_of s) old.cache c.look.new.pass (Look (record { marker = record {}; value = s }) (record { marker = record {}; value = found }))) shape c.in_ok-found.ensures.call in
    weighs_looked c.args.service.now.policy c.args.self.now (effort_in (g.S.Settle.orders c.args.settle.now) c.args.budget) c.args.query.now c.requires.uncovered found c.as_slice-templates.result.now c.as_slice-templates.ensures
    c.shard-shard.result (c.shard-shard.ensures ∙ ap shard_of shape) c.by_templates.result c.by_templates.ensures old (record { versions = old.versions; cache = c.look.new.pass }) refl call
