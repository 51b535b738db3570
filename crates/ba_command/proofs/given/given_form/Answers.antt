use Rattle.std.proofs.Common.{◌∙◌, ap₂}
use Rattle.std.proofs.lemmas.Result.{IfOk-weaker}
use Rattle.clap.specs.Simple.{with_rule}
use Rattle.ba_command.proofs.given.given_form.Goals as goal

pub returns : goal.returns
returns c =
    let schema = c.in_ok-arg.ensures.shape c.needed.ensures.local ∙ ap₂ with_rule c.bare.ensures c.needed.ensures.rule in
    let policy = c.in_ok-arg-2.ensures.shape c.needed-2.ensures.local ∙ ap₂ with_rule schema c.needed-2.ensures.rule in
    let tables = c.in_ok-arg-3.ensures.shape c.needed-3.ensures.local ∙ ap₂ with_rule policy c.needed-3.ensures.rule in
    IfOk-weaker c.arg-4.result _ _ (λ form h. h.shape c.needed-4.ensures.local ∙ ap₂ with_rule tables c.needed-4.ensures.rule) c.arg-4.ensures
