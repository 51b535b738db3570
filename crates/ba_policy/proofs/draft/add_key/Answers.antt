use Rattle.std.proofs.Common.{◌∙◌, ap, sym}
use Rattle.ba_model.specs.declared.policy.CacheKey.{CacheKey}
use Rattle.ba_policy.specs.Meaning.{scope_of}
use Rattle.ba_policy.proofs.KeyLemmas.{keys_fit_more}
use Rattle.ba_policy.proofs.draft.add_key.Goals as goal

pub returns-in_ok-push-in-Ok-clause-fits : goal.returns-in_ok-push-in-Ok-clause-fits
returns-in_ok-push-in-Ok-clause-fits c =
    let made : CacheKey = record { name = c.in_ok-name.name; arguments = c.in_ok-arguments-in-Ok.arguments; queries = c.in-Ok.queries } in
    keys_fit_more c.args.schema.now c.args.all.now c.args.draft.now.keys c.push.new.self made c.in_ok-scope.scope c.len.result c.requires
    (c.in_ok-scope.ensures ∙ ap (scope_of c.args.all.now c.len.result) (sym c.in_ok-arguments-in-Ok.ensures)) c.in-Ok.ensures.fit c.in_ok-push-in-Ok.ensures.ok
