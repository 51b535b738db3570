use Rattle.std.proofs.Common.{◌≡◌, subst}
use Rattle.std.specs.Prelude.{Ok}
use Rattle.ba_model.specs.declared.schema.Schema.{Schema}
use Rattle.ba_store.proofs.FitLemmas.{is_checked}
use Rattle.ba_store.specs.Reading.{checked}
use Rattle.ba_store.proofs.queries.checked.Goals as goal

pub returns-in-Ok : goal.returns-in-Ok
returns-in-Ok c =
    let params = c.args.policy.now.params in
    subst (λ (s : Schema). checked c.args.field s params c.args.vars.now c.args.parts ≡ Ok c.in-Ok.query) c.deref.ensures
    (is_checked c.args.field c.deref.result.now params c.args.vars.now c.args.parts c.in-Ok.query c.in-Ok.ensures.ok c.in-Ok.ensures.content)
